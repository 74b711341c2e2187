-- Words that were worked out by hand.
use Rattle.std.proofs.Common.{◌≡◌, ◌≢◌, ℕ, List, [], ◌∷◌, refl, inl, inr, ap, arith, codes}
use Rattle.std.specs.Fmt.{digits}
use Rattle.og_words.specs.Words.{Check, Compile, Run, Simulate, IsSdlFile, IsAsnFile, IsModelFile, IsProgramFile, IsStimuliFile, AreDifferent, HasOneSdlFile, AreModelFiles, AsksFor, IsNoCommand}
use Rattle.og_words.proofs.CommandForms.{short_is_none}
use Rattle.og_words.proofs.OneCommand.{last_byte, two_languages, no_files}

m_pr : IsSdlFile (codes "m.pr")
m_pr = (codes "m", omega arith, refl)

d_asn : IsAsnFile (codes "d.asn")
d_asn = inl (codes "d", omega arith, refl)

e_asn1 : IsAsnFile (codes "e.asn1")
e_asn1 = inr (codes "e", omega arith, refl)

p_c : IsProgramFile (codes "p.c")
p_c = (codes "p", omega arith, refl)

s_stim : IsStimuliFile (codes "s.stim")
s_stim = (codes "s", omega arith, refl)

one_file : AreModelFiles (codes "m.pr" ∷ [])
one_file = record { each = (inl m_pr, tt); few = omega arith; different = (tt, tt); process = inl (m_pr, tt) }

pub check : AsksFor (codes "check" ∷ codes "m.pr" ∷ []) (Check (codes "m.pr" ∷ []))
check = record { behind = []; are = refl; files = one_file; stands = refl }

pub compile : AsksFor (codes "cc" ∷ codes "m.pr" ∷ []) (Compile (codes "m.pr" ∷ []))
compile = record { behind = []; are = refl; files = one_file; stands = refl }

pub run : AsksFor (codes "run" ∷ codes "m.pr" ∷ codes "p.c" ∷ codes "s.stim" ∷ codes "--steps" ∷ codes "50" ∷ []) (Run (codes "m.pr" ∷ []) (codes "p.c") (codes "s.stim") 50)
unfolding digits
run = record {
  behind = codes "p.c" ∷ codes "s.stim" ∷ codes "--steps" ∷ codes "50" ∷ [];
  are = refl;
  files = one_file;
  stands = (codes "--steps" ∷ codes "50" ∷ [], refl, inr (refl, (omega arith, omega arith)), p_c, s_stim);
}

pub simulate : AsksFor (codes "sim" ∷ codes "m.pr" ∷ codes "s.stim" ∷ []) (Simulate (codes "m.pr" ∷ []) (codes "s.stim") 1000000)
simulate = record { behind = codes "s.stim" ∷ []; are = refl; files = one_file; stands = ([], refl, inl (refl, refl), s_stim) }

-- a name that is an ending alone
no_name : IsModelFile (codes ".pr") → ⊥
no_name (inl h) = short_is_none (codes ".pr") (codes ".pr") (omega arith) h
no_name (inr (inl h)) = short_is_none (codes ".pr") (codes ".asn") (omega arith) h
no_name (inr (inr h)) = short_is_none (codes ".pr") (codes ".asn1") (omega arith) h

pub no_stem : IsNoCommand (codes "cc" ∷ codes ".pr" ∷ [])
no_stem = no_files (codes "cc" ∷ codes ".pr" ∷ []) (codes "cc") [] (codes ".pr" ∷ []) (record { are = refl; each = tt; stops = no_name }) (λ are. are.process)

no_sdl : HasOneSdlFile (codes "d.asn" ∷ []) → ⊥
no_sdl (inl h) = two_languages (codes "d.asn") h.0 d_asn
no_sdl (inr more) = more.1

pub no_process : IsNoCommand (codes "cc" ∷ codes "d.asn" ∷ [])
no_process = no_files (codes "cc" ∷ codes "d.asn" ∷ []) (codes "cc") (codes "d.asn" ∷ []) [] (record { are = refl; each = (inr d_asn, tt); stops = tt }) (λ are. no_sdl are.process)

differ : (a b : List ℕ) → (last_byte 0 a ≡ last_byte 0 b → ⊥) → a ≢ b
differ a b h e = h (ap (last_byte 0) e)

any_order : AreModelFiles (codes "d.asn" ∷ codes "m.pr" ∷ codes "e.asn1" ∷ [])
any_order = record {
  each = (inr d_asn, (inl m_pr, (inr e_asn1, tt)));
  few = omega arith;
  different = (
    (differ (codes "m.pr") (codes "d.asn") (λ e. let f : 114 ≡ 110 = e in omega (arith, f)), (differ (codes "e.asn1") (codes "d.asn") (λ e. let f : 49 ≡ 110 = e in omega (arith, f)), tt)),
    ((differ (codes "e.asn1") (codes "m.pr") (λ e. let f : 49 ≡ 114 = e in omega (arith, f)), tt), (tt, tt)),
  );
  process = inr (d_asn, inl (m_pr, (e_asn1, tt)));
}

pub in_any_order : AsksFor (codes "check" ∷ codes "d.asn" ∷ codes "m.pr" ∷ codes "e.asn1" ∷ []) (Check (codes "d.asn" ∷ codes "m.pr" ∷ codes "e.asn1" ∷ []))
in_any_order = record { behind = []; are = refl; files = any_order; stands = refl }

n_pr : IsSdlFile (codes "n.pr")
n_pr = (codes "n", omega arith, refl)

no_two : HasOneSdlFile (codes "m.pr" ∷ codes "n.pr" ∷ []) → ⊥
no_two (inl h) = two_languages (codes "n.pr") n_pr h.1.0
no_two (inr h) = two_languages (codes "m.pr") m_pr h.0

pub two_processes : IsNoCommand (codes "check" ∷ codes "m.pr" ∷ codes "n.pr" ∷ [])
two_processes =
    no_files (codes "check" ∷ codes "m.pr" ∷ codes "n.pr" ∷ []) (codes "check") (codes "m.pr" ∷ codes "n.pr" ∷ []) [] (record { are = refl; each = (inl m_pr, (inl n_pr, tt)); stops = tt }) (λ are. no_two are.process)

pub twice : AreDifferent (codes "m.pr" ∷ codes "d.asn" ∷ codes "m.pr" ∷ []) → ⊥
twice different = different.0.1.0 refl
