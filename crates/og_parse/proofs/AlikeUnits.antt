-- Files whose tokens are the same, wherever they stand, are of units that differ in places alone, or have a violation at one token.
use Rattle.std.proofs.Common.{◌≡◌, ℕ, zero, suc, Bool, true, false, IsTrue, List, [], ◌∷◌, length, Option, Some, None, refl, sym, ap, subst, ◌∙◌}
use Rattle.og_base.specs.declared.Place.{Place}
use Rattle.og_ast.specs.declared.ground.Name.{Name}
use Rattle.og_ast.specs.declared.system.CountTree.{CountTree}
use Rattle.og_reading.specs.Reading.{Rest, behind, after}
use Rattle.og_parse.specs.Reading.{use_at, sig_at, signal_at, point_at, path_at, paths_at, channel_at, route_at, link_at, count_at, process_body_at, process_at, process_or_reference_at, block_process_at, block_part_at, block_at, system_part_at, system_at, unit_at, units_at}
use Rattle.og_parse.specs.Alike.{Alike, Maybe, OneName, OneUse, OneSig, OneSignal, OnePoint, point_env, point_name, OnePath, OneChannel, OneRoute, OneLink, OneCount, OneProcess, OneBlockPart, block_signal, block_route, block_link, block_process, block_reference, OneBlock, OneSystemPart, system_use, system_signal, system_channel, system_procedure, system_block, OneSystem, OneUnit, unit_use, unit_system, unit_process, AreAlike}
use Rattle.og_parse.proofs.Beside.{Beside, on, past, one_number, one_name, Fit, Agree, either, agree_maybe, agree_more, agree_list, agree_in_brackets}
use Rattle.og_parse.proofs.AlikeBodies.{agree_name, agree_hname, agree_end, agree_closing, agree_procedure}
use Rattle.og_parse.proofs.AlikeStates.{agree_inner}

-- ---- what leads to processes

agree_use : Agree OneUse use_at use_at
unfolding use_at
agree_use = record {
  by = λ r s b.
      let named = agree_hname.by (behind (after r)) (behind (after s)) (past (on b)) in
      let e = agree_end.by _ _ named.left in
      record { is = (named.is, e.is); left = e.left };
}

agree_sig : Agree OneSig sig_at sig_at
unfolding sig_at
agree_sig = record {
  by = λ r s b.
      let sorts = (agree_in_brackets agree_hname).by (behind (after r)) (behind (after s)) (past (on b)) in
      record { is = (one_name (on b), sorts.is); left = sorts.left };
}

agree_signal : Agree OneSignal signal_at signal_at
unfolding signal_at
agree_signal = record {
  by = λ r s b.
      let signals = (agree_list agree_sig).by (behind (after r)) (behind (after s)) (past (on b)) in
      let e = agree_end.by _ _ signals.left in
      record { is = (signals.is, e.is); left = e.left };
}

agree_point : Agree OnePoint point_at point_at
unfolding point_at
agree_point = record { by = λ r s b. either 0 b (record { is = point_env _ _; left = past (on b) }) (record { is = point_name _ _ (one_name (on b)); left = past (on b) }) }

agree_path : Agree OnePath path_at path_at
unfolding path_at
agree_path = record {
  by = λ r s b.
      let begins = agree_point.by (behind (after r)) (behind (after s)) (past (on b)) in
      let ends = agree_point.by _ _ (past begins.left) in
      let signals = (agree_list agree_name).by _ _ (past ends.left) in
      let e = agree_end.by _ _ signals.left in
      record { is = (begins.is, ends.is, signals.is, e.is); left = e.left };
}

agree_paths : Agree (Alike OnePath) paths_at paths_at
unfolding paths_at
agree_paths = record {
  by = λ r s b.
      let first = agree_path.by r s b in
      (agree_more agree_path (_ ∷ []) (_ ∷ []) (first.is, tt)).by _ _ first.left;
}

agree_channel : Agree OneChannel channel_at channel_at
unfolding channel_at
agree_channel = record {
  by = λ r s b.
      let paths = agree_paths.by (behind (behind (after r))) (behind (behind (after s))) (past (past (on b))) in
      let c = (agree_closing _ _).by _ _ (past paths.left) in
      record { is = (one_name (past (on b)), paths.is, c.is); left = c.left };
}

agree_route : Agree OneRoute route_at route_at
unfolding route_at
agree_route = record {
  by = λ r s b.
      let paths = agree_paths.by (behind (behind (after r))) (behind (behind (after s))) (past (past (on b))) in
      record { is = (one_name (past (on b)), paths.is); left = paths.left };
}

agree_link : Agree OneLink link_at link_at
unfolding link_at
agree_link = record {
  by = λ r s b.
      let channels = (agree_list agree_name).by (behind (after r)) (behind (after s)) (past (on b)) in
      let routes = (agree_list agree_name).by _ _ (past channels.left) in
      let e = agree_end.by _ _ routes.left in
      record { is = (channels.is, routes.is, e.is); left = e.left };
}

-- ---- processes

agree_count : Agree OneCount count_at count_at
unfolding count_at
agree_count = record {
  by = λ r s b.
      let c = past (on b) in
      let d = past (past c) in
      record { is = (one_number c, one_number d); left = past (past d) };
}

agree_process_body : (n : ℕ) (p q : Place) (l m : Name) (c d : Option CountTree) → OneName l m → Maybe OneCount c d → Agree OneProcess (process_body_at n p l c) (process_body_at n q m d)
unfolding process_body_at
agree_process_body n p q l m c d i j = record {
  by = λ r s b.
      let e = agree_end.by (after r) (after s) (on b) in
      let parts = (agree_more (agree_inner n) [] [] tt).by _ _ e.left in
      let closing = (agree_closing _ _).by _ _ (past parts.left) in
      record { is = (i, j, e.is, parts.is, closing.is); left = closing.left };
}

agree_process : (n : ℕ) → Agree OneProcess (process_at n) (process_at n)
unfolding process_at
agree_process n = record {
  by = λ r s b.
      let count = (agree_maybe agree_count).by (behind (behind (after r))) (behind (behind (after s))) (past (past (on b))) in
      (agree_process_body n _ _ _ _ _ _ (one_name (past (on b))) count.is).by _ _ count.left;
}

agree_either : (n : ℕ) (p q : Place) (l m : Name) (c d : Option CountTree) → OneName l m → Maybe OneCount c d → Agree OneBlockPart (process_or_reference_at n p l c) (process_or_reference_at n q m d)
unfolding process_or_reference_at
agree_either n p q l m c d i j = record {
  by = λ r s b.
      let e = agree_end.by (behind (after r)) (behind (after s)) (past (on b)) in
      let x = (agree_process_body n p q l m c d i j).by (after r) (after s) (on b) in
      either 0 b (record { is = block_reference _ _ (i, j, e.is); left = e.left }) (record { is = block_process _ _ x.is; left = x.left });
}

agree_block_process : (n : ℕ) → Agree OneBlockPart (block_process_at n) (block_process_at n)
unfolding block_process_at
agree_block_process n = record {
  by = λ r s b.
      let count = (agree_maybe agree_count).by (behind (behind r)) (behind (behind s)) (past (past b)) in
      (agree_either n _ _ _ _ _ _ (one_name (past b)) count.is).by _ _ count.left;
}

-- ---- blocks, systems and files

agree_block_part : (n : ℕ) → Agree OneBlockPart (block_part_at n) (block_part_at n)
unfolding block_part_at
agree_block_part n = record {
  by = λ r s b.
      let signal = agree_signal.by (after r) (after s) (on b) in
      let route = agree_route.by (after r) (after s) (on b) in
      let link = agree_link.by (after r) (after s) (on b) in
      either 0 b (record { is = block_signal _ _ signal.is; left = signal.left })
      (either 1 b (record { is = block_route _ _ route.is; left = route.left })
      (either 2 b (record { is = block_link _ _ link.is; left = link.left }) ((agree_block_process n).by (after r) (after s) (on b))));
}

agree_block : (n : ℕ) → Agree OneBlock (block_at n) (block_at n)
unfolding block_at
agree_block n = record {
  by = λ r s b.
      let e = agree_end.by (behind (behind (after r))) (behind (behind (after s))) (past (past (on b))) in
      let parts = (agree_more (agree_block_part n) [] [] tt).by _ _ e.left in
      let c = (agree_closing _ _).by _ _ (past parts.left) in
      record { is = (one_name (past (on b)), e.is, parts.is, c.is); left = c.left };
}

agree_system_part : (n : ℕ) → Agree OneSystemPart (system_part_at n) (system_part_at n)
unfolding system_part_at
agree_system_part n = record {
  by = λ r s b.
      let u = agree_use.by (after r) (after s) (on b) in
      let signal = agree_signal.by (after r) (after s) (on b) in
      let channel = agree_channel.by (after r) (after s) (on b) in
      let procedure = (agree_procedure n).by (after r) (after s) (on b) in
      let block = (agree_block n).by (after r) (after s) (on b) in
      either 0 b (record { is = system_use _ _ u.is; left = u.left })
      (either 1 b (record { is = system_signal _ _ signal.is; left = signal.left })
      (either 2 b (record { is = system_channel _ _ channel.is; left = channel.left })
      (either 3 b (record { is = system_procedure _ _ procedure.is; left = procedure.left }) (record { is = system_block _ _ block.is; left = block.left }))));
}

agree_system : (n : ℕ) → Agree OneSystem (system_at n) (system_at n)
unfolding system_at
agree_system n = record {
  by = λ r s b.
      let e = agree_end.by (behind (behind (after r))) (behind (behind (after s))) (past (past (on b))) in
      let parts = (agree_more (agree_system_part n) [] [] tt).by _ _ e.left in
      let c = (agree_closing _ _).by _ _ (past parts.left) in
      record { is = (one_name (past (on b)), e.is, parts.is, c.is); left = c.left };
}

agree_unit : (n : ℕ) → Agree OneUnit (unit_at n) (unit_at n)
unfolding unit_at
agree_unit n = record {
  by = λ r s b.
      let u = agree_use.by (after r) (after s) (on b) in
      let system = (agree_system n).by (after r) (after s) (on b) in
      let process = (agree_process n).by (after r) (after s) (on b) in
      either 0 b (record { is = unit_use _ _ u.is; left = u.left })
      (either 1 b (record { is = unit_system _ _ system.is; left = system.left }) (record { is = unit_process _ _ process.is; left = process.left }));
}

pub agree_units : (n : ℕ) → Agree AreAlike (units_at n) (units_at n)
unfolding units_at
agree_units n = record { by = λ r s b. (agree_more (agree_unit n) [] [] tt).by (after r) (after s) (on b) }
