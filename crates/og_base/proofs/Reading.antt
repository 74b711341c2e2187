-- What is known of a file while it is read piece by piece.
use Rattle.std.proofs.Common.{◌≡◌, ℕ, ◌+◌, ◌<◌, ◌≤◌, List, [], ◌∷◌, ◌++◌, Option, Some, None, IfSome, length, take, drop, sym, ◌∙◌, ap, refl, arith, subst, length-append, length-drop}
use Rattle.std.proofs.Math.Seq.{take-add, take-length}
use Rattle.std.proofs.lemmas.List.{take_at, length-take-le}
use Rattle.og_base.specs.Store.{Files, GivesPiece, IsPiece, Holds, HoldsMore}

-- these bytes begin the file
pub record IsFront (file bytes : List ℕ) : Type 0 where
  pub within : length bytes ≤ length file
  pub same : bytes ≡ take (length bytes) file

-- where bytes were read the file is there, and they begin it
pub record SoFar (files : Files) (name bytes : List ℕ) : Type 0 where
  pub known : 0 < length bytes → (file : List ℕ) × (files name ≡ Some file) × IsFront file bytes

abbrev pub ReadSoFar : Option Files → List ℕ → List ℕ → Type 0
ReadSoFar told name bytes = IfSome told (λ files. SoFar files name bytes)

pub nothing_read : (told : Option Files) (name : List ℕ) → ReadSoFar told name []
nothing_read None name = tt
nothing_read (Some files) name = record { known = λ h. absurd (omega arith) }

-- the file that gave a piece begins with the bytes before it
file_of : (files : Files) (name bytes given : List ℕ) → SoFar files name bytes → files name ≡ Some given → IsFront given bytes
file_of files name [] given so is = record { within = omega arith; same = refl }
file_of files name (b ∷ bytes) given so is =
    let there = so.known (omega arith) in
    let same : there.0 ≡ given = let e : Some there.0 ≡ Some given = sym there.1 ∙ is in cc in
    subst (λ (f : List ℕ). IsFront f (b ∷ bytes)) same there.2

piece_taken : (file : List ℕ) (at : ℕ) (old new : List ℕ) (count : ℕ) → IsPiece file at old new count → take count new ≡ take count (drop at file)
piece_taken file at old new count piece =
    ap (take count) piece.copied
    ∙ take_at (take count (drop at file)) (drop count old) count (length-take-le count (drop at file) (let l = length-drop at file in omega (arith, piece.inside)))

joined : (file bytes new : List ℕ) (old : List ℕ) (count : ℕ) → IsFront file bytes → IsPiece file (length bytes) old new count → IsFront file (bytes ++ take count new)
joined file bytes new old count front piece =
    let more = piece_taken file (length bytes) old new count piece in
    let len : length (take count new) ≡ count = ap length more ∙ length-take-le count (drop (length bytes) file) (let l = length-drop (length bytes) file in omega (arith, piece.inside)) in
    let all : length (bytes ++ take count new) ≡ length bytes + count = length-append bytes (take count new) ∙ ap (λ n. length bytes + n) len in
    record {
      within = omega (arith, piece.inside, front.within);
      same = sym (ap (λ n. take n file) all ∙ take-add (length bytes) count file ∙ ap (λ (xs : List ℕ). xs ++ take count (drop (length bytes) file)) (sym front.same) ∙ ap (λ (xs : List ℕ). bytes ++ xs) (sym more));
    }

pub more_read : (told : Option Files) (name bytes old new : List ℕ) (count : ℕ) → ReadSoFar told name bytes → GivesPiece told name (length bytes) old new count → ReadSoFar told name (bytes ++ take count new)
more_read None name bytes old new count so gives = tt
more_read (Some files) name bytes old new count so gives = record {
  known = λ _. (gives.0, gives.1, joined gives.0 bytes new old count (file_of files name bytes gives.0 so gives.1) gives.2);
}

pub all_read : (told : Option Files) (name bytes old new : List ℕ) (count : ℕ) → count ≡ 0 → 0 < length old → ReadSoFar told name bytes → GivesPiece told name (length bytes) old new count → Holds told name bytes
all_read None name bytes old new count none room so gives = tt
all_read (Some files) name bytes old new count none room so gives =
    let front = file_of files name bytes gives.0 so gives.1 in
    let over = gives.2.last none room in
    let same : length bytes ≡ length gives.0 = omega (arith, over, front.within) in
    gives.1 ∙ ap Some (sym (front.same ∙ ap (λ n. take n gives.0) same ∙ take-length gives.0))

pub too_much : (told : Option Files) (name bytes : List ℕ) (limit : ℕ) → limit < length bytes → ReadSoFar told name bytes → HoldsMore told name limit
too_much None name bytes limit many so = tt
too_much (Some files) name bytes limit many so =
    let there = so.known (omega arith) in
    (there.0, there.1, omega (arith, there.2.within))

-- the same, where each value is known by an equation
pub next_read : (told told' : Option Files) (name bytes old new shown front all : List ℕ) (at count : ℕ) → told' ≡ told → at ≡ length bytes → shown ≡ new → front ≡ take count shown → all ≡ bytes ++ front → ReadSoFar told name bytes → GivesPiece told' name at old new count → ReadSoFar told name all
next_read told told' name bytes old new shown front all at count told-is at-is shown-is front-is all-is so gives =
    let P : Option Files → Type 0 = λ t. GivesPiece t name at old new count in
    let Q : ℕ → Type 0 = λ n. GivesPiece told name n old new count in
    let R : List ℕ → Type 0 = λ xs. ReadSoFar told name xs in
    let there = subst Q at-is (subst P told-is gives) in
    let same : bytes ++ take count new ≡ all = sym (all-is ∙ ap (λ (xs : List ℕ). bytes ++ xs) (front-is ∙ ap (take count) shown-is)) in
    subst R same (more_read told name bytes old new count so there)

pub shown_whole : (len : ℕ) (new old : List ℕ) → len ≡ length old → length new ≡ length old → take len (new ++ drop (length new) old) ≡ new
shown_whole len new old is same = take_at new (drop (length new) old) len (same ∙ sym is)
