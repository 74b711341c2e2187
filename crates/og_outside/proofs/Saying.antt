-- The clauses of the top call, put into one.
use Rattle.std.proofs.Common.{◌≡◌, ℕ, List, Option, refl}
use Rattle.og_base.specs.Store.{Files, Rose}
use Rattle.og_tool.specs.declared.status.Status.{Status}
use Rattle.og_tool.specs.declared.status.Status.TheVariants.{Done, Refused, Usage, ReadFault, WriteFault, NoMemory, BadFile, Past, Faulted, Stuck, TooLarge}
use Rattle.og_tool.specs.Answers.{Wrote, WroteSome, FailedToRead, IsTooLarge}
use Rattle.og_words.specs.Words.{IsNoCommand}
use Rattle.og_outside.specs.Ends.{Says}

pub record Clauses (status : Status) (words : List (List ℕ)) (told : Option Files) (was is : List ℕ → ℕ) (old new : Option (List ℕ)) (before after : ℕ) : Type 0 where
  pub done : status ≡ Done → Wrote words told Done old new
  pub refused : status ≡ Refused → Wrote words told Refused old new
  pub usage : status ≡ Usage → IsNoCommand words
  pub usage_writes_nothing : status ≡ Usage → new ≡ old
  pub read_fault : status ≡ ReadFault → FailedToRead words told was is
  pub read_fault_writes_nothing : status ≡ ReadFault → new ≡ old
  pub write_fault : status ≡ WriteFault → Rose before after
  pub write_fault_writes_a_front : status ≡ WriteFault → WroteSome words told old new
  pub no_memory : status ≡ NoMemory → new ≡ old
  pub bad_file : status ≡ BadFile → Wrote words told BadFile old new
  pub past : status ≡ Past → Wrote words told Past old new
  pub faulted : status ≡ Faulted → Wrote words told Faulted old new
  pub stuck : status ≡ Stuck → Wrote words told Stuck old new
  pub too_large : status ≡ TooLarge → IsTooLarge words told
  pub too_large_writes_nothing : status ≡ TooLarge → new ≡ old

pub says : (status : Status) (words : List (List ℕ)) (told : Option Files) (was is : List ℕ → ℕ) (old new : Option (List ℕ)) (before after : ℕ) → Clauses status words told was is old new before after → Says status words told was is old new before after
says Done words told was is old new before after c = c.done refl
says Refused words told was is old new before after c = c.refused refl
says Usage words told was is old new before after c = (c.usage refl, c.usage_writes_nothing refl)
says ReadFault words told was is old new before after c = (c.read_fault refl, c.read_fault_writes_nothing refl)
says WriteFault words told was is old new before after c = (c.write_fault refl, c.write_fault_writes_a_front refl)
says NoMemory words told was is old new before after c = c.no_memory refl
says BadFile words told was is old new before after c = c.bad_file refl
says Past words told was is old new before after c = c.past refl
says Faulted words told was is old new before after c = c.faulted refl
says Stuck words told was is old new before after c = c.stuck refl
says TooLarge words told was is old new before after c = (c.too_large refl, c.too_large_writes_nothing refl)
