-- What an act's outcome is: a refusal or another answer, which sets clocks alone, or what the touched parts are told. So what
-- is to be shown of an act is shown of these.
use Rattle.std.proofs.Common.{Result, Ok, Err, ℕ, List, [], ◌∷◌, Option, Some, None, true, false, cond, length, map, max, not, eqb, refl}
use Rattle.std.proofs.lemmas.Bool.{cond_both}
use Rattle.std.specs.Option.{option_map, option_to_list}
use Rattle.row_values.specs.declared.value.Item.{Item}
use Rattle.row_values.specs.Elements.{in_order}
use Rattle.row_values.specs.Slots.{rising}
use Rattle.row_values.specs.Store.{kept, precedes}
use Rattle.model.specs.Times.{is_future, time_of}
use Rattle.model.specs.Acts.{Ask, AskPlan, AskKeys, AskTable, AskWork, AskRemovable, AskPresent, At, Planned, Work, Removable, Present, Future, TooOld, Fenced, StaleSchema, Rows, CutoffAt, Compacted, Counts, NoTablet, Ok as Accepted, Refusal, Refused, Reply}
use Rattle.model.specs.Cleanup.{removable}
use Rattle.model.specs.History.{look}
use Rattle.model.specs.Lists.{by_range}
use Rattle.model.specs.Looks.{active_in, first_code, found_at, holding, judge_keys, look_keys, look_plan, look_present, look_table, placed, plan_of}
use Rattle.model.specs.Parts.{decided, Check, If, Names, Fault, Master, Outcome, Parts, Restarts, answered, judged, refused}
use Rattle.model.specs.RowActs.{write, read, cutoff, compact, restart, stats, count_frozen, cut_rows, first_cutoff, first_fence, first_moved, has_moved, rows_of_places, allowed_of, scheduled_at, serves_all, stale}
use Rattle.model.specs.Tablets.{Compact as CompactTablet, RaiseCutoff, Restart as RestartTablet, Write as WriteRows, is_empty}
use Rattle.model.specs.Work.{next_work}
use Rattle.law_invariants.specs.Invariant.{Passes}
use Rattle.law_invariants.proofs.Frame.{tells}

-- an outcome that is judged is a refusal, or comes where none of the checks does
pub by_refusal : (Q : Outcome → Type 0) (checks : List Check) (o : Outcome) → ((why : Refusal) → Q (refused why)) → (Passes checks → Q o) → Q (judged checks o)
by_refusal Q [] o no_ go = go tt
by_refusal Q (If false why ∷ checks) o no_ go = by_refusal Q checks o no_ (λ p. go (refl, p))
by_refusal Q (If true why ∷ checks) o no_ go = no_ why
by_refusal Q (Names None why ∷ checks) o no_ go = by_refusal Q checks o no_ (λ p. go (refl, p))
by_refusal Q (Names (Some id) why ∷ checks) o no_ go = no_ (why id)
by_refusal Q (Fault None ∷ checks) o no_ go = by_refusal Q checks o no_ (λ p. go (refl, p))
by_refusal Q (Fault (Some why) ∷ checks) o no_ go = no_ why

-- what is decided is a refusal, or comes of what was found
pub decided_by : {A : Type 0} (Q : Outcome → Type 0) (found : Result A Refusal) (accept : A → Outcome) → ((why : Refusal) → Q (refused why)) → ((a : A) → Q (accept a)) → Q (decided found accept)
decided_by Q (Err why) accept no_ go = no_ why
decided_by Q (Ok a) accept no_ go = go a

pub look_by : (Q : Outcome → Type 0) (ask : Ask) (n : ℕ) (m : Master) → ((reply : Reply) → Q (answered reply)) → Q (look ask n m)
unfolding look_plan look_keys look_table look_present
look_by Q (AskPlan command) n m each = each (Planned (plan_of command m))
look_by Q (AskKeys namespace table batch at) n m each =
    decided_by Q (judge_keys namespace table batch at n m) (λ t. placed (option_to_list (holding m t.id (first_code batch))) t)
    (λ why. each (Refused why)) (λ t. each _)
look_by Q (AskTable namespace table at) n m each =
    decided_by Q (found_at namespace table at n m) (λ t. placed (by_range (active_in m t.id)) t) (λ why. each (Refused why)) (λ t. each _)
look_by Q AskWork n m each = each (Work (next_work m))
look_by Q AskRemovable n m each = each (Removable (removable m n))
look_by Q AskPresent n m each = each (Present (rising (map (λ i. i.slot) m.activity)))

pub write_by : (Q : Outcome → Type 0) (place : At) (version : ℕ) (batch : List Item) (n : ℕ) (ps : Parts) → ((reply : Reply) → Q (answered reply))
    → Q (tells place.slot (WriteRows batch) (Accepted [])) → Q (write place version batch n ps)
unfolding write
write_by Q place version batch n ps each go =
    let t = ps.tablet place.slot in
    by_refusal Q
    (If (not (serves_all t place.tablet batch)) (has_moved place.slot t) ∷ Names t.fence Fenced ∷ If (not (eqb t.version version)) (StaleSchema t.version) ∷ [])
    (tells place.slot (WriteRows batch) (Accepted []))
    (λ why. each (Refused why)) (λ passes. go)

pub read_by : (Q : Outcome → Type 0) (places : List At) (version : ℕ) (key : Option (List ℕ)) (at : Option ℕ) (columns : List ℕ) (n : ℕ) (ps : Parts)
    → ((reply : Reply) → Q (answered reply)) → Q (read places version key at columns n ps)
unfolding read
read_by Q places version key at columns n ps each =
    let reply = Rows (cut_rows columns (in_order (λ r s. precedes r.key s.key) (rows_of_places places key (time_of at n) ps.tablet))) in
    by_refusal Q
    (Fault (first_moved key places ps.tablet)
    ∷ Names (first_fence places ps.tablet) Fenced
    ∷ Fault (option_map StaleSchema (stale at places version ps.tablet))
    ∷ If (is_future at n) (Future n)
    ∷ Fault (option_map (TooOld (time_of at n)) (first_cutoff places at ps.tablet))
    ∷ [])
    (answered reply) (λ why. each (Refused why)) (λ passes. each reply)

pub cutoff_by : (Q : Outcome → Type 0) (slot n : ℕ) (ps : Parts) → ((reply : Reply) → Q (answered reply))
    → (let to = allowed_of (scheduled_at ps.master slot) n in Q (tells slot (RaiseCutoff to) (CutoffAt (max (ps.tablet slot).cutoff to)))) → Q (cutoff slot n ps)
unfolding cutoff
cutoff_by Q slot n ps each go =
    let t = ps.tablet slot in
    let to = allowed_of (scheduled_at ps.master slot) n in
    by_refusal Q (If (is_empty t.presence) (has_moved slot t) ∷ []) (tells slot (RaiseCutoff to) (CutoffAt (max t.cutoff to))) (λ why. each (Refused why)) (λ passes. go)

pub compact_by : (Q : Outcome → Type 0) (slot n : ℕ) (ps : Parts) → ((reply : Reply) → Q (answered reply)) → ((reply : Reply) → Q (tells slot CompactTablet reply)) → Q (compact slot n ps)
unfolding compact
compact_by Q slot n ps each go =
    let t = ps.tablet slot in
    let reply = Compacted (length t.versions) (length (kept t.versions t.cutoff)) in
    by_refusal Q (If (is_empty t.presence) (has_moved slot t) ∷ []) (tells slot CompactTablet reply) (λ why. each (Refused why)) (λ passes. go reply)

pub stats_by : (Q : Outcome → Type 0) (slot n : ℕ) (ps : Parts) → ((reply : Reply) → Q (answered reply)) → Q (stats slot n ps)
unfolding stats
stats_by Q slot n ps each =
    let t = ps.tablet slot in each (cond (is_empty t.presence) NoTablet (Counts t.cutoff (length t.versions) (count_frozen t.frozen) (length t.inbox)))

abbrev pub master_restarts : Outcome
master_restarts = record { master = Restarts; tablets = []; reply = Accepted [] }

pub restart_by : (Q : Outcome → Type 0) (slot n : ℕ) (ps : Parts) → Q master_restarts → Q (tells slot RestartTablet (Accepted [])) → Q (restart slot n ps)
unfolding restart
restart_by Q slot n ps master tablet = cond_both (eqb slot 0) master_restarts (tells slot RestartTablet (Accepted [])) Q (λ e. master) (λ e. tablet)
