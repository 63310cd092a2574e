-- What makes an entry right: a look that finds the one tablet of a key, a read of one key that gives its row, and a journal in which what
-- was fixed stays.
use Rattle.std.proofs.Common.{◌≡◌, ℕ, Bool, true, false, List, [], ◌∷◌, ◌++◌, Some, None, refl, sym, ap, subst, ◌∙◌, is_some, ◌&&◌, ◌⊎◌, inl, inr, if◌then◌else◌}
use Rattle.std.specs.Str.{bytes_eq}
use Rattle.std.proofs.lemmas.Bool.{cases_Bool, true≢false}
use Rattle.std.proofs.lemmas.Slice.Eq.{bytes_eq-Decides}
use Rattle.row_values.specs.declared.rows.KeyedRow.{KeyedRow}
use Rattle.row_values.specs.declared.value.Cell.{Cell}
use Rattle.row_values.specs.Codes.{code_of}
use Rattle.row_values.specs.Rows.{cut_to}
use Rattle.row_values.specs.Ranges.{in_range}
use Rattle.row_values.specs.Store.{present, of_key}
use Rattle.model.specs.Acts.{At, Act, NamedCell, Placed, Rows}
use Rattle.model.specs.Entries.{Entry}
use Rattle.model.specs.Replies.{AnswerRight, Right}
use Rattle.model.specs.History.{activity_of, replay, journal_of}
use Rattle.model.specs.Looks.{batch_fault, place_of, code_outside}
use Rattle.model.specs.Activity.{Interval, active_at}
use Rattle.row_values.specs.Schema.{Column}
use Rattle.model_rows.specs.Runs.{Run, entry_on, event_of, done}
use Rattle.model.specs.Tablets.{Tablet, serves}
use Rattle.model.specs.Journal.{Change, ChangeAct, NamespaceRestored, NamespaceCloned, namespace_at, table_at, row_at}
use Rattle.model.specs.Right.{is_fixed, TableFound, rows_wanted, StillSame, fixes, NoneLate, FixedStays}
use Rattle.row_values.specs.Ids.{Id}
use Rattle.row_values.specs.Elements.{In}
use Rattle.model_rows.specs.Scripts.{asked, asking, reading, t, row}
use Rattle.model.specs.Answers.{KeysPlaced, GivesRows, version_at}

-- a change that fixes no time of a namespace
abbrev pub is_plain : ChangeAct → Bool
is_plain (NamespaceRestored namespace to) = false
is_plain (NamespaceCloned source target name to tables) = false
is_plain _ = true

abbrev pub AllPlain : List Change → Type 0
AllPlain [] = Unit {0}
AllPlain (c ∷ earlier) = (is_plain c.act ≡ true) × AllPlain earlier

not_fixed_by : (act : ChangeAct) (n : ℕ) (earlier : List Change) (ns : Id) (to : ℕ) → is_plain act ≡ true → is_fixed earlier ns to ≡ false
    → is_fixed (record { stamp = n; act = act } ∷ earlier) ns to ≡ false
not_fixed_by (NamespaceRestored namespace then_) n earlier ns to plain before = absurd (true≢false (sym plain))
not_fixed_by (NamespaceCloned source target name then_ tables) n earlier ns to plain before = absurd (true≢false (sym plain))
not_fixed_by _ n earlier ns to plain before = before

pub not_fixed : (changes : List Change) (ns : Id) (to : ℕ) → AllPlain changes → is_fixed changes ns to ≡ false
not_fixed [] ns to plain = refl
not_fixed (c ∷ earlier) ns to plain = not_fixed_by c.act c.stamp earlier ns to plain.0 (not_fixed earlier ns to plain.1)

-- a table is found at a time at which the view has it, in a namespace that is there
abbrev pub table_found : (changes : List Change) (n : ℕ) (namespace : List ℕ) (owner id : Id) (columns : List Column)
    → namespace_at changes n owner ≡ Some namespace → table_at changes n id ≡ Some (record { namespace = owner; name = t; columns = columns })
    → TableFound changes n n namespace t
table_found changes n namespace owner id columns named found = record {
  owner = owner;
  owner_named = named;
  id = id;
  view = record { namespace = owner; name = t; columns = columns };
  found = found;
  inside = refl;
  named = refl;
  current = ap is_some found;
}

-- a read of a key at one place is right for all keys where it is for its own
pub one_row : (changes : List Change) (time : ℕ) (k : List ℕ) (columns : List ℕ) (tablets : ℕ → Tablet) (p : At) (cells : List Cell)
    → of_key k (row k cells ∷ []) ≡ rows_wanted changes time (Some k) columns tablets (p ∷ []) k → (key : List ℕ)
    → of_key key (row k cells ∷ []) ≡ rows_wanted changes time (Some k) columns tablets (p ∷ []) key
one_row changes time k columns tablets p cells own key = by (cases_Bool (bytes_eq k key))
  where
    other : Bool → List KeyedRow
    other test =
        (if test && in_range (tablets p.slot).low (tablets p.slot).high (code_of key)
        then present key (cut_to (row_at changes time (tablets p.slot).table key) columns)
        else []) ++ []

    by : (bytes_eq k key ≡ true) ⊎ (bytes_eq k key ≡ false) → of_key key (row k cells ∷ []) ≡ rows_wanted changes time (Some k) columns tablets (p ∷ []) key
    by (inl e) =
        subst (λ q. of_key q (row k cells ∷ []) ≡ rows_wanted changes time (Some k) columns tablets (p ∷ []) q) ((bytes_eq-Decides k key).0 e) own
    by (inr e) = ap (λ test. if test then row k cells ∷ [] else []) e ∙ sym (ap other e)

-- the entry that an act makes after a run
abbrev pub newest : Act → Run → Entry
newest act run = entry_on (event_of act run) run.entries run.parts

pub only_one : {A : Type 0} (x y : A) → In x (y ∷ []) → y ≡ x
only_one x y (inl e) = e
only_one x y (inr h) = absurd h

-- Journals without restores and clones

none_late_at_all : (changes : List Change) → AllPlain changes → NoneLate changes
none_late_at_all [] plain = tt
none_late_at_all (c ∷ earlier) plain =
    (none_late_at_all earlier plain.1, λ ns to fixed of_it. absurd (true≢false (sym fixed ∙ not_fixed earlier ns to plain.1)))

fixes_none : (act : ChangeAct) (ns : Id) (to : ℕ) → is_plain act ≡ true → fixes act ns to ≡ false
fixes_none (NamespaceRestored namespace then_) ns to plain = absurd (true≢false (sym plain))
fixes_none (NamespaceCloned source target name then_ tables) ns to plain = absurd (true≢false (sym plain))
fixes_none _ ns to plain = refl

pub nothing_fixed : (all changes : List Change) → AllPlain changes → StillSame all changes
nothing_fixed all [] plain = tt
nothing_fixed all (c ∷ earlier) plain =
    (nothing_fixed all earlier plain.1, λ ns to fixed. absurd (true≢false (sym fixed ∙ fixes_none c.act ns to plain.0)))

pub plain_stays : (changes : List Change) → AllPlain changes → FixedStays changes
plain_stays changes plain = record { none_late = none_late_at_all changes plain; same = nothing_fixed changes changes plain }

-- Looks and reads

pub look_right : (slots : ℕ) (run : Run) (namespace : List ℕ) (owner table : Id) (key : List ℕ) (cells : List NamedCell) (home : Interval) (version : ℕ)
    (columns : List Column) → Right slots run.entries
    → (newest (asking namespace key cells) run).reply ≡ Placed (place_of home ∷ []) version columns
    → namespace_at (journal_of slots run.entries) (newest (asking namespace key cells) run).stamp owner ≡ Some namespace
    → table_at (journal_of slots run.entries) (newest (asking namespace key cells) run).stamp table
    ≡ Some (record { namespace = owner; name = t; columns = columns })
    → version ≡ version_at (journal_of slots run.entries) (newest (asking namespace key cells) run).stamp table
    → batch_fault columns (asked key cells) ≡ None
    → In home (activity_of slots run.entries) → home.table ≡ table → active_at (newest (asking namespace key cells) run).stamp home ≡ true
    → in_range home.low home.high (code_of key) ≡ true → code_outside home (asked key cells) ≡ None
    → FixedStays (journal_of slots run.entries)
    → Right slots (done (asking namespace key cells) run).entries
unfolding journal_of
look_right slots run namespace owner table key cells home version columns right reply named found version_is judged listed table_is active holds inside stays =
    let n = (newest (asking namespace key cells) run).stamp in
    let changes = journal_of slots run.entries in
    let ps = replay slots run.entries in (
      right,
      (
        subst (λ r. AnswerRight (asking namespace key cells) r n ps (activity_of slots run.entries) changes) (sym reply)
            (KeysPlaced (place_of home ∷ []) version columns
            (record { found = table_found changes n namespace owner table columns named found; reach = record { over = refl; kept = refl } })
            judged
            (record { version_is = version_is; columns_are = refl })
            (record { interval = home; listed = listed; table_is = table_is; active = active; holds = holds })
            inside
            refl),
        stays,
      ),
    )

pub read_right : (slots : ℕ) (run : Run) (p : At) (version : ℕ) (key columns : List ℕ) (cells : List Cell)
    → Right slots run.entries → (newest (reading p version key columns) run).reply ≡ Rows (row key cells ∷ [])
    → serves ((replay slots run.entries).tablet p.slot) p.tablet ≡ true
    → in_range ((replay slots run.entries).tablet p.slot).low ((replay slots run.entries).tablet p.slot).high (code_of key) ≡ true
    → ((replay slots run.entries).tablet p.slot).fence ≡ None → ((replay slots run.entries).tablet p.slot).version ≡ version
    → of_key key (row key cells ∷ [])
    ≡ rows_wanted (journal_of slots run.entries) (newest (reading p version key columns) run).stamp (Some key) columns (replay slots run.entries).tablet (p ∷ []) key
    → FixedStays (journal_of slots run.entries)
    → Right slots (done (reading p version key columns) run).entries
unfolding journal_of
read_right slots run p version key columns cells right reply served inside unfenced fresh own stays =
    let n = (newest (reading p version key columns) run).stamp in
    let ps = replay slots run.entries in
    let changes = journal_of slots run.entries in (
      right,
      (
        subst (λ r. AnswerRight (reading p version key columns) r n ps (activity_of slots run.entries) changes) (sym reply)
            (GivesRows (row key cells ∷ [])
            (record { may = record { served = ((served, inside), tt); unfenced = (unfenced, tt) }; fresh = λ now. (fresh, tt); over = refl })
            (refl, tt)
            (record { in_order = tt; each = one_row changes n key columns ps.tablet p cells own })),
        stays,
      ),
    )
