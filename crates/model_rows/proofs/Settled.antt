-- What settling does: its acts one by one, the bound on them, and that no record is unfinished behind them.
use Rattle.std.proofs.Common.{◌≡◌, ℕ, List, [], ◌∷◌, ◌++◌, None, ap, length, refl, sym, subst}
use Rattle.row_values.specs.Ids.{Id}
use Rattle.model.specs.Tablets.{ReleaseKind, RestoreFromKind}
use Rattle.model.specs.Records.{IsReleasing, IsRestored}
use Rattle.model.specs.Acts.{Act, Ack, Acked, Advance, Advanced, CreateTable, Done, NotDone, Process, Refusal, Refused, Reply, Send, SentTo}
use Rattle.model.specs.Parts.{Parts}
use Rattle.model.specs.Settling.{left, EachGoesOn, GoesOn, Settles, after_acts, coordinated, replies_under, settle as settle_acts}
use Rattle.model.specs.Work.{next_act, unfinished_records}
use Rattle.model_rows.proofs.Numbers.{none_is_not_one}
use Rattle.model_rows.specs.Computed.{the_book}
use Rattle.model_rows.specs.Runs.{Run, after, begun}
use Rattle.model_rows.specs.Scripts.{P, R, a, coordinate, create_namespace, create_schedule, early, home, new_int, planned_change, put, ready, restart, restore, t, take_snapshot, tick, v, v_is, x}

-- a snapshot of one tablet

abbrev frozen_soon : Parts
frozen_soon = (after take_snapshot ready).parts

a_snapshots_acts : settle_acts 1000000 frozen_soon ≡ Send (P 1) 1 ∷ Process 1 1 ∷ Ack (P 1) 1 ∷ Advance (P 1) ∷ []
unfolding the_book
a_snapshots_acts = refl

a_snapshots_bound : left frozen_soon.master ≡ 5
unfolding the_book
a_snapshots_bound = refl

snapshot_finished : unfinished_records (after_acts 1000000 (settle_acts 1000000 frozen_soon) frozen_soon).master ≡ []
unfolding the_book
snapshot_finished = refl

-- of two tablets: the first one first

abbrev two_tablets : Parts
two_tablets = (after
    (tick 1000000
    ++ create_namespace a
    ++ planned_change (CreateTable a t 2 (new_int v ∷ [])) (1 ∷ 2 ∷ [])
    ++ create_schedule 1 10 a
    ++ take_snapshot)
    (begun 64)).parts

two_tablets_acts : settle_acts 1000000 two_tablets
    ≡ Send (P 1) 1 ∷ Process 1 1 ∷ Ack (P 1) 1 ∷ Send (P 1) 2 ∷ Process 2 2 ∷ Ack (P 1) 2 ∷ Advance (P 1) ∷ []
unfolding the_book
two_tablets_acts = refl

-- fewer acts are the first ones
the_first_four : coordinated 4 1000000 two_tablets ≡ Send (P 1) 1 ∷ Process 1 1 ∷ Ack (P 1) 1 ∷ Send (P 1) 2 ∷ []
unfolding the_book
the_first_four = refl

-- a restore of one tablet: fence, freeze, take the rows back, release

abbrev restore_begun : Run
restore_begun = after (put a t (home 1) x (v_is 1) ++ restore (early 3)) ready

a_restores_acts : settle_acts 1000000 restore_begun.parts
    ≡ Send (R 1) 1 ∷ Process 1 1 ∷ Ack (R 1) 1 ∷ Advance (R 1)
    ∷ Send (P 1) 1 ∷ Process 1 1 ∷ Ack (P 1) 1 ∷ Advance (P 1)
    ∷ Advance (R 1) ∷ Advance (R 1)
    ∷ Send (R 1) 1 ∷ Process 1 1 ∷ Ack (R 1) 1 ∷ Advance (R 1)
    ∷ Send (R 1) 1 ∷ Process 1 1 ∷ Ack (R 1) 1 ∷ Advance (R 1)
    ∷ []
unfolding the_book
a_restores_acts = refl

a_restores_bound : left restore_begun.parts.master ≡ 22
unfolding the_book
a_restores_bound = refl

restore_finished : unfinished_records (after_acts 1000000 (settle_acts 1000000 restore_begun.parts) restore_begun.parts).master ≡ []
unfolding the_book
restore_finished = refl

-- the tablet's restart lost a command that was sent: the ack comes too early, and the command is sent again

abbrev lost : Parts
lost = (after (coordinate 11 ++ restart 1) restore_begun).parts

abbrev lost_acts : List Act
lost_acts =
    Ack (R 1) 1 ∷ Send (R 1) 1 ∷ Process 1 1 ∷ Ack (R 1) 1 ∷ Advance (R 1)
    ∷ Send (R 1) 1 ∷ Process 1 1 ∷ Ack (R 1) 1 ∷ Advance (R 1)
    ∷ []

abbrev lost_replies : List Reply
lost_replies =
    Refused NotDone ∷ SentTo ∷ Done (R 1) RestoreFromKind ∷ Acked ∷ Advanced IsReleasing
    ∷ SentTo ∷ Done (R 1) ReleaseKind ∷ Acked ∷ Advanced IsRestored
    ∷ []

lost_acts_are : settle_acts 1000000 lost ≡ lost_acts
unfolding the_book
lost_acts_are = refl

lost_replies_are : replies_under 1000000 lost_acts lost ≡ lost_replies
unfolding the_book
lost_replies_are = refl

lost_finished : unfinished_records (after_acts 1000000 lost_acts lost).master ≡ []
unfolding the_book
lost_finished = refl

accepted : (act : Act) (reply : Reply) → ((why : Refusal) → reply ≡ Refused why → ⊥) → GoesOn act reply
accepted act reply never why is = absurd (never why is)

early_ack : (operation : Id) (slot : ℕ) → GoesOn (Ack operation slot) (Refused NotDone)
early_ack operation slot why is = (cc, (operation, (slot, refl)))

lost_goes_on : EachGoesOn lost_acts lost_replies
lost_goes_on = (
  early_ack (R 1) 1,
  (
    accepted _ _ (λ why is. cc),
    (
      accepted _ _ (λ why is. cc),
      (
        accepted _ _ (λ why is. cc),
        (
          accepted _ _ (λ why is. cc),
          (accepted _ _ (λ why is. cc), (accepted _ _ (λ why is. cc), (accepted _ _ (λ why is. cc), (accepted _ _ (λ why is. cc), tt)))),
        ),
      ),
    ),
  ),
)

lost_settles : Settles 1000000 lost
lost_settles = record {
  each =
      subst (λ acts. EachGoesOn acts (replies_under 1000000 acts lost)) (sym lost_acts_are)
      (subst (λ replies. EachGoesOn lost_acts replies) (sym lost_replies_are) lost_goes_on);
  finished = subst (λ acts. unfinished_records (after_acts 1000000 acts lost).master ≡ []) (sym lost_acts_are) lost_finished;
}

-- where a restore waits for its own snapshot, and the master has lost that record, settling comes to no end

abbrev held_up : Parts
held_up = let ps = (after (coordinate 4) restore_begun).parts in record ps { master = record ps.master { snapshots = [] } }

stuck : Settles 1000000 held_up → ⊥
unfolding the_book
stuck settles = none_is_not_one (sym (ap length settles.finished))

-- nothing comes next where no record is unfinished
nothing_next : next_act ready.parts ≡ None
unfolding the_book
nothing_next = refl
