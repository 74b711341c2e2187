-- Stores and sinks in memory, for tests: what they hold, which of their calls fail, and what a call leaves.
use Rattle.std.specs.Prelude.{ℕ, ◌+◌, ◌-◌, ◌^◌, min, List, [], ◌∷◌, length, Bool, ◌||◌, Option, Some, None, if◌then◌else◌, unwrap_or, is_none, nat_eq}
use lib.Pointwise.{pointwise}
use Rattle.std.specs.List.{list_any}
use Rattle.og_base.specs.Store.{Files}
use Rattle.og_base.specs.declared.memory.MemFile.{MemFile}
use Rattle.og_base.specs.declared.memory.MemStore.{MemStore}

-- the bytes of the first file of this name
abbrev pub file_named : List MemFile → List ℕ → Option (List ℕ)
file_named [] name = None
file_named (file ∷ files) name = if pointwise nat_eq file.name.items name then Some file.bytes.items else file_named files name

-- the same, and no bytes where there is no such file
abbrev pub file_or_empty : List MemFile → List ℕ → List ℕ
file_or_empty files name = unwrap_or (file_named files name) []

-- the files of a store that gives no bytes where there is no such file
abbrev pub told_or_empty : List MemFile → Option Files
told_or_empty files = Some (λ name. Some (file_or_empty files name))

-- what a sink tells that tells nothing
abbrev pub nothing_told : Option (List ℕ)
nothing_told = None

-- the calls of these numbers fail, and this is one of them
abbrev pub is_bad : List ℕ → ℕ → Bool
is_bad bad call = list_any (λ number. nat_eq number call) bad

-- one more, as long as 64 bits hold it
abbrev pub counted : ℕ → ℕ
counted n = min (n + 1) (2 ^ 64 - 1)

-- reading a file of this name fails at the next call: it is one that is to fail, or there is no such file
abbrev pub read_fails : MemStore → List ℕ → Bool
read_fails store name = is_bad store.bad.items store.calls || is_none (file_named store.files.items name)

-- the store after that call: the files and the numbers of bad calls stay, each call counts, and one that fails counts twice
abbrev pub store_after_read : MemStore → List ℕ → MemStore
store_after_read store name =
    record store {
      calls = counted store.calls;
      failures = if read_fails store name then counted store.failures else store.failures;
    }

-- how many bytes are given of a file from a place on, into so much room: all that are there and fit
abbrev pub given_of : List ℕ → ℕ → ℕ → ℕ
given_of bytes at room = min (length bytes - at) room
