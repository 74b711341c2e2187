-- What was written while bytes are written piece by piece.
use Rattle.std.proofs.Common.{◌≡◌, ℕ, List, [], ◌++◌, Option, Some, None, take, drop, sym, ◌∙◌, ap, refl, append_assoc}
use Rattle.std.proofs.lemmas.List.{take-append-drop, append-nil}
use Rattle.og_base.specs.Sink.{grown, WroteFront}

-- a front of the bytes was written, and the rest is left
pub record WrittenSoFar (bytes rest : List ℕ) (old new : Option (List ℕ)) : Type 0 where
  pub front : List ℕ
  pub whole : bytes ≡ front ++ rest
  pub taken : new ≡ grown front old

grown_twice : (xs ys : List ℕ) (old : Option (List ℕ)) → grown ys (grown xs old) ≡ grown (xs ++ ys) old
grown_twice xs ys None = refl
grown_twice xs ys (Some old) = ap Some (simp append_assoc)

pub nothing_written : (bytes : List ℕ) (old : Option (List ℕ)) → WrittenSoFar bytes bytes old old
nothing_written bytes None = record { front = []; whole = refl; taken = refl }
nothing_written bytes (Some old) = record { front = []; whole = refl; taken = ap Some (sym (append-nil old)) }

pub more_written : (bytes rest : List ℕ) (count : ℕ) (old mid new : Option (List ℕ)) → WrittenSoFar bytes rest old mid → new ≡ grown (take count rest) mid → WrittenSoFar bytes (drop count rest) old new
more_written bytes rest count old mid new so taken = record {
  front = so.front ++ take count rest;
  whole = so.whole ∙ ap (λ (xs : List ℕ). so.front ++ xs) (sym (take-append-drop count rest)) ∙ sym (append_assoc so.front (take count rest) (drop count rest));
  taken = taken ∙ ap (grown (take count rest)) so.taken ∙ grown_twice so.front (take count rest) old;
}

pub front_written : (bytes rest : List ℕ) (old new : Option (List ℕ)) → WrittenSoFar bytes rest old new → WroteFront bytes old new
front_written bytes rest old new so = (so.front, rest, so.whole, so.taken)

pub all_written : (bytes rest : List ℕ) (old new : Option (List ℕ)) → rest ≡ [] → WrittenSoFar bytes rest old new → new ≡ grown bytes old
all_written bytes rest old new done so = so.taken ∙ ap (λ (xs : List ℕ). grown xs old) (sym (so.whole ∙ ap (λ (xs : List ℕ). so.front ++ xs) done ∙ append-nil so.front))
