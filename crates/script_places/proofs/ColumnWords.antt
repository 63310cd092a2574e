-- What a column's word is read as.
use Rattle.std.proofs.Common.{◌≡◌, ℕ, ◌⊎◌, inl, inr, Bool, true, false, cond, List, [], ◌∷◌, ◌++◌, map, append_assoc, Option, Some, None, Result, Ok, Err, refl, sym, ap, subst, ◌∙◌, codes}
use Rattle.std.specs.Prelude.{bytes_eq}
use Rattle.std.specs.List.{AllByRecursion}
use Rattle.std.proofs.lemmas.List.{append-nil}
use Rattle.row_values.specs.Schema.{ColumnKind, IntColumn, TextColumn, NewColumn}
use Rattle.script_words.specs.declared.cause.Cause.{Cause}
use Rattle.script_words.specs.declared.cause.Cause.TheVariants.{BadName, RepeatedColumn}
use Rattle.script_words.specs.Reading.{◌>>=◌}
use Rattle.script_places.specs.Words.{Word, before, behind, wanted}
use Rattle.script_places.specs.Names.{is_name}
use Rattle.script_places.specs.Columns.{kind_of, column_of, has_name, column_behind, columns_from}
use Rattle.script_places.specs.Spelling.{kind_word, column_word, FitsColumn, AreNew}
use Rattle.script_places.specs.Grammar.{IsColumn, ColumnsRefused}
use Rattle.script_places.proofs.Cuts.{same_words, cut_whole, name_cut}

kind_by : (w : Word) (int text : Bool) (kind : ColumnKind) → bytes_eq w (codes "int") ≡ int → bytes_eq w (codes "text") ≡ text
    → cond int (Some IntColumn) (cond text (Some TextColumn) None) ≡ Some kind → w ≡ kind_word kind
kind_by w true text kind int is e = let same : IntColumn ≡ kind = cc in subst (λ (k : ColumnKind). w ≡ kind_word k) same (same_words w (codes "int") int)
kind_by w false true kind int is e = let same : TextColumn ≡ kind = cc in subst (λ (k : ColumnKind). w ≡ kind_word k) same (same_words w (codes "text") is)
kind_by w false false kind int is e = absurd cc

kind_is : (w : Word) (kind : ColumnKind) → kind_of w ≡ Some kind → w ≡ kind_word kind
unfolding kind_of
kind_is w kind e = kind_by w (bytes_eq w (codes "int")) (bytes_eq w (codes "text")) kind refl refl e

kind_again : (kind : ColumnKind) → kind_of (kind_word kind) ≡ Some kind
unfolding kind_of
kind_again IntColumn = refl
kind_again TextColumn = refl

no_kind : kind_of [] ≡ None
unfolding kind_of
no_kind = refl

pub column_again : (column : NewColumn) → FitsColumn column → column_of (column_word column) ≡ Ok column
unfolding column_of
column_again column fits =
    let cut = name_cut 58 column.name (kind_word column.kind) refl fits in
    rw (cut.0, cut.1, fits, kind_again column.kind) refl

abbrev named : Word → ColumnKind → NewColumn
named w kind = record { name = before 58 w; kind = kind }

abbrev column_by : Word → Bool → Option ColumnKind → Result NewColumn Cause
column_by w name kind = cond name (wanted BadName kind >>= λ k. Ok (named w k)) (Err BadName)

by_cut : (w : Word) (kind : ColumnKind) → kind_of (behind 58 w) ≡ Some kind → (w ≡ before 58 w ++ (58 ∷ behind 58 w)) ⊎ (behind 58 w ≡ []) → w ≡ before 58 w ++ (58 ∷ kind_word kind)
by_cut w kind is (inl whole) = whole ∙ ap (λ (bs : List ℕ). before 58 w ++ (58 ∷ bs)) (kind_is (behind 58 w) kind is)
by_cut w kind is (inr none) = absurd (let e : None ≡ Some kind = sym no_kind ∙ sym (ap kind_of none) ∙ is in cc)

is_column_by : (w : Word) (name : Bool) (kind : Option ColumnKind) (column : NewColumn) → is_name (before 58 w) ≡ name → kind_of (behind 58 w) ≡ kind
    → column_by w name kind ≡ Ok column → (w ≡ column_word column) × FitsColumn column
is_column_by w true (Some k) column name kind e =
    let same : named w k ≡ column = cc in
    subst (λ (c : NewColumn). (w ≡ column_word c) × FitsColumn c) same (by_cut w k kind (cut_whole 58 w), name)
is_column_by w true None column name kind e = absurd cc
is_column_by w false kind column name is e = absurd cc

pub column_is : (w : Word) (column : NewColumn) → column_of w ≡ Ok column → (w ≡ column_word column) × FitsColumn column
unfolding column_of
column_is w column e = is_column_by w (is_name (before 58 w)) (kind_of (behind 58 w)) column refl refl e

abbrev refused_for : Cause → Result NewColumn Cause
refused_for cause = Err cause

same_cause : (c d : Cause) → refused_for c ≡ refused_for d → c ≡ d
same_cause c d e = cc

cause_by : (w : Word) (name : Bool) (kind : Option ColumnKind) (cause : Cause) → column_by w name kind ≡ Err cause → cause ≡ BadName
cause_by w true (Some k) cause e = absurd cc
cause_by w true None cause e = sym (same_cause BadName cause e)
cause_by w false kind cause e = sym (same_cause BadName cause e)

only_cause : (w : Word) (cause : Cause) → column_of w ≡ Err cause → cause ≡ BadName
unfolding column_of
only_cause w cause e = cause_by w (is_name (before 58 w)) (kind_of (behind 58 w)) cause e

pub column_not : (w : Word) (cause : Cause) → column_of w ≡ Err cause → ¬ (IsColumn w) × (cause ≡ BadName)
column_not w cause e = ((λ is. let no : refused_for cause ≡ Ok is.0 = sym e ∙ ap column_of is.1 ∙ column_again is.0 is.2 in absurd cc), only_cause w cause e)

none_by : (w : Word) (r : Result NewColumn Cause) → column_of w ≡ r → ¬ (IsColumn w) → r ≡ Err BadName
none_by w (Ok column) is none = absurd (let i = column_is w column is in none (column, i.0, i.1))
none_by w (Err d) is none = ap refused_for (only_cause w d is)

pub column_refused : (w : Word) (cause : Cause) → ¬ (IsColumn w) → cause ≡ BadName → column_of w ≡ Err cause
column_refused w cause none is = none_by w (column_of w) refl none ∙ ap refused_for (sym is)

-- columns, one after the other
abbrev done : List NewColumn → Result (List NewColumn) Cause
done columns = Ok columns

abbrev failed : Cause → Result (List NewColumn) Cause
failed cause = Err cause

same_failure : (c d : Cause) → failed c ≡ failed d → c ≡ d
same_failure c d e = cc

-- a column that is new
behind_new : (kept : List NewColumn) (w : Word) (column : NewColumn) → column_of w ≡ Ok column → has_name kept column.name ≡ false → column_behind kept w ≡ Ok column
unfolding column_behind
behind_new kept w column is new = rw (is, new) refl

behind_repeated : (kept : List NewColumn) (w : Word) (column : NewColumn) → column_of w ≡ Ok column → has_name kept column.name ≡ true → column_behind kept w ≡ Err RepeatedColumn
unfolding column_behind
behind_repeated kept w column is known = rw (is, known) refl

behind_refused : (kept : List NewColumn) (w : Word) (cause : Cause) → column_of w ≡ Err cause → column_behind kept w ≡ Err cause
unfolding column_behind
behind_refused kept w cause is = rw is refl

behind_by_name : (kept : List NewColumn) (column found : NewColumn) (known : Bool) → has_name kept column.name ≡ known → cond known (Err RepeatedColumn) (Ok column) ≡ Ok found
    → (column ≡ found) × (has_name kept found.name ≡ false)
behind_by_name kept column found true is e = absurd cc
behind_by_name kept column found false is e = let same : column ≡ found = cc in (same, subst (λ (c : NewColumn). has_name kept c.name ≡ false) same is)

behind_by : (kept : List NewColumn) (w : Word) (found : NewColumn) (r : Result NewColumn Cause) → column_of w ≡ r
    → (r >>= λ column. cond (has_name kept column.name) (Err RepeatedColumn) (Ok column)) ≡ Ok found → (column_of w ≡ Ok found) × (has_name kept found.name ≡ false)
behind_by kept w found (Err d) is e = absurd cc
behind_by kept w found (Ok column) is e =
    let n = behind_by_name kept column found (has_name kept column.name) refl e in
    (subst (λ (c : NewColumn). column_of w ≡ Ok c) n.0 is, n.1)

behind_is : (kept : List NewColumn) (w : Word) (found : NewColumn) → column_behind kept w ≡ Ok found → (column_of w ≡ Ok found) × (has_name kept found.name ≡ false)
unfolding column_behind
behind_is kept w found e = behind_by kept w found (column_of w) refl e

-- why a column isn't put behind those that are kept
abbrev BehindNot : List NewColumn → Word → Cause → Type 0
BehindNot kept w cause =
    (¬ (IsColumn w) × (cause ≡ BadName)) ⊎ ((column : NewColumn) × (w ≡ column_word column) × FitsColumn column × ((has_name kept column.name ≡ true) × (cause ≡ RepeatedColumn)))

not_by_name : (kept : List NewColumn) (column : NewColumn) (cause : Cause) (known : Bool) → has_name kept column.name ≡ known → cond known (Err RepeatedColumn) (Ok column) ≡ Err cause
    → (has_name kept column.name ≡ true) × (cause ≡ RepeatedColumn)
not_by_name kept column cause true is e = (is, sym (same_cause RepeatedColumn cause e))
not_by_name kept column cause false is e = absurd cc

not_by : (kept : List NewColumn) (w : Word) (cause : Cause) (r : Result NewColumn Cause) → column_of w ≡ r
    → (r >>= λ column. cond (has_name kept column.name) (Err RepeatedColumn) (Ok column)) ≡ Err cause → BehindNot kept w cause
not_by kept w cause (Err d) is e = let n = column_not w d is in inl (n.0, sym (same_cause d cause e) ∙ n.1)
not_by kept w cause (Ok column) is e =
    let i = column_is w column is in
    inr (column, i.0, i.1, not_by_name kept column cause (has_name kept column.name) refl e)

behind_not : (kept : List NewColumn) (w : Word) (cause : Cause) → column_behind kept w ≡ Err cause → BehindNot kept w cause
unfolding column_behind
behind_not kept w cause e = not_by kept w cause (column_of w) refl e

pub columns_again : (columns kept : List NewColumn) → AllByRecursion FitsColumn columns → AreNew kept columns → columns_from kept (map column_word columns) ≡ Ok (kept ++ columns)
unfolding columns_from
columns_again [] kept fits new = ap done (sym (append-nil kept))
columns_again (column ∷ columns) kept fits new =
    rw (behind_new kept (column_word column) column (column_again column fits.0) new.0)
    (columns_again columns (kept ++ column ∷ []) fits.1 new.1 ∙ ap done (append_assoc kept (column ∷ []) columns))

-- the columns that were read behind those that are kept
abbrev pub NewColumns : List NewColumn → List NewColumn → List Word → Type 0
NewColumns kept all ws = (columns : List NewColumn) × (all ≡ kept ++ columns) × (ws ≡ map column_word columns) × AllByRecursion FitsColumn columns × AreNew kept columns

columns_by : (w : Word) (ws : List Word) (kept all : List NewColumn) (r : Result NewColumn Cause) → column_behind kept w ≡ r
    → ((column : NewColumn) → columns_from (kept ++ column ∷ []) ws ≡ Ok all → NewColumns (kept ++ column ∷ []) all ws)
    → (r >>= λ column. columns_from (kept ++ column ∷ []) ws) ≡ Ok all → NewColumns kept all (w ∷ ws)
columns_by w ws kept all (Err d) is later e = absurd cc
columns_by w ws kept all (Ok column) is later e =
    let b = behind_is kept w column is in
    let i = column_is w column b.0 in
    let rest = later column e in (
      column ∷ rest.0,
      rest.1 ∙ append_assoc kept (column ∷ []) rest.0,
      ap (λ (v : Word). v ∷ ws) i.0 ∙ ap (λ (vs : List Word). column_word column ∷ vs) rest.2,
      (i.1, rest.3),
      (b.1, rest.4),
    )

pub columns_are : (ws : List Word) (kept all : List NewColumn) → columns_from kept ws ≡ Ok all → NewColumns kept all ws
unfolding columns_from
columns_are [] kept all e = let same : kept ≡ all = cc in ([], sym same ∙ sym (append-nil kept), refl, tt, tt)
columns_are (w ∷ ws) kept all e = columns_by w ws kept all (column_behind kept w) refl (λ column h. columns_are ws (kept ++ column ∷ []) all h) e

told : (kept : List NewColumn) (w : Word) (ws : List Word) (cause : Cause) → BehindNot kept w cause → ColumnsRefused kept cause (w ∷ ws)
told kept w ws cause (inl r) = inl r
told kept w ws cause (inr r) = inr (r.0, r.1, r.2, inl r.3)

not_columns_by : (w : Word) (ws : List Word) (kept : List NewColumn) (cause : Cause) (r : Result NewColumn Cause) → column_behind kept w ≡ r
    → ((column : NewColumn) → columns_from (kept ++ column ∷ []) ws ≡ Err cause → ColumnsRefused (kept ++ column ∷ []) cause ws)
    → (r >>= λ column. columns_from (kept ++ column ∷ []) ws) ≡ Err cause → ColumnsRefused kept cause (w ∷ ws)
not_columns_by w ws kept cause (Err d) is later e = told kept w ws cause (behind_not kept w cause (is ∙ ap refused_for (same_failure d cause e)))
not_columns_by w ws kept cause (Ok column) is later e =
    let b = behind_is kept w column is in
    let i = column_is w column b.0 in
    inr (column, i.0, i.1, inr (b.1, later column e))

pub columns_not : (ws : List Word) (kept : List NewColumn) (cause : Cause) → columns_from kept ws ≡ Err cause → ColumnsRefused kept cause ws
unfolding columns_from
columns_not [] kept cause e = absurd cc
columns_not (w ∷ ws) kept cause e = not_columns_by w ws kept cause (column_behind kept w) refl (λ column h. columns_not ws (kept ++ column ∷ []) cause h) e

second : (w : Word) (ws : List Word) (kept : List NewColumn) (cause : Cause) (column : NewColumn) → column_of w ≡ Ok column
    → ((has_name kept column.name ≡ true) × (cause ≡ RepeatedColumn)) ⊎ ((has_name kept column.name ≡ false) × ColumnsRefused (kept ++ column ∷ []) cause ws)
    → (ColumnsRefused (kept ++ column ∷ []) cause ws → columns_from (kept ++ column ∷ []) ws ≡ Err cause) → columns_from kept (w ∷ ws) ≡ Err cause
unfolding columns_from
second w ws kept cause column is (inl r) later = rw (behind_repeated kept w column is r.0) (ap failed (sym r.1))
second w ws kept cause column is (inr r) later = rw (behind_new kept w column is r.0) (later r.1)

pub columns_refused : (ws : List Word) (kept : List NewColumn) (cause : Cause) → ColumnsRefused kept cause ws → columns_from kept ws ≡ Err cause
unfolding columns_from
columns_refused [] kept cause r = absurd r
columns_refused (w ∷ ws) kept cause (inl r) = rw (behind_refused kept w cause (column_refused w cause r.0 r.1)) refl
columns_refused (w ∷ ws) kept cause (inr r) =
    second w ws kept cause r.0 (ap column_of r.1 ∙ column_again r.0 r.2) r.3 (λ h. columns_refused ws (kept ++ r.0 ∷ []) cause h)
