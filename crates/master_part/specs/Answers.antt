-- What was found, or a refusal, as the book's.
use denote.Ref.{Bor}
use Rattle.std.specs.Prelude.{Result, Ok, Err}
use Rattle.model.specs.Acts as book
use Rattle.cluster_events.specs.SeenReplies.{refusal_of}
use Rattle.cluster_events.specs.declared.refusal.Refusal.{Refusal}

abbrev pub answer : {A : Type 0} → Result A Refusal → Result A book.Refusal
answer (Ok found) = Ok found
answer (Err why) = Err (refusal_of why)

-- the same of what a reference points to
abbrev pub answer_at : {A : Type 0} → Result (Bor A) Refusal → Result A book.Refusal
answer_at (Ok found) = Ok found.now
answer_at (Err why) = Err (refusal_of why)

-- and of a struct of this crate, by what it is seen as
abbrev pub answer_by : {A B : Type 0} → (A → B) → Result A Refusal → Result B book.Refusal
answer_by seen (Ok found) = Ok (seen found)
answer_by seen (Err why) = Err (refusal_of why)
