-- What a place makes of its words is what they write, and it refuses what writes nothing.
use Rattle.std.proofs.Common.{◌≡◌, ℕ, ◌^◌, ◌<◌, ◌≤◌, Bool, true, false, ◌&&◌, cond, List, [], ◌∷◌, ◌++◌, length, map, Option, Some, None, Result, Ok, Err, refl, sym, ap, subst, ◌∙◌, codes, arith}
use Rattle.std.specs.Prelude.{nat_le, bytes_eq, decimal}
use Rattle.std.specs.List.{AllByRecursion, list_all}
use Rattle.std.proofs.lemmas.Bool.{and_parts, and_from}
use Rattle.std.proofs.lemmas.List.{append-nil, length-map}
use Rattle.row_values.specs.Schema.{NewColumn}
use Rattle.script_words.specs.declared.cause.Cause.{Cause}
use Rattle.script_words.specs.declared.cause.Cause.TheVariants.{BadName, BadKey, BadNumber, BadIdentifier, BadTime, NoSuchSlot}
use Rattle.script_words.specs.Reading.{◌>>=◌}
use Rattle.model.specs.Acts.{NamedCell, NamedItem}
use Rattle.model.specs.Scripts.{Time, Micros, MinusMinutes, MinusSeconds, Exact}
use Rattle.script_places.specs.declared.place.Place.{Place}
use Rattle.script_places.specs.declared.place.Place.TheVariants as places
use Rattle.script_places.specs.Words.{Word, wanted}
use Rattle.script_places.specs.Names.{is_name, is_key, name_at, unprefixed, database_at, key_at}
use Rattle.script_places.specs.Numbers.{number_of, from_least, number_in, number_at}
use Rattle.yb_ident.specs.Seen.{kind_of}
use Rattle.script_places.specs.Identifiers.{ident_of}
use Rattle.script_places.specs.Values.{cells_from}
use Rattle.script_places.specs.Columns.{column_of, column_at, columns_from}
use Rattle.script_places.specs.Times.{time_of, maybe_time}
use Rattle.script_places.specs.Groups.{groups, item_fits, items_fit}
use Rattle.script_places.specs.Items.{items_from}
use Rattle.script_places.specs.Counts.{takes_rest, rest_fits, word_fits, fits}
use Rattle.script_places.specs.Places.{Meaning, at}
use Rattle.script_places.specs.Spelling.{cell_word, FitsCell, column_word, FitsColumn, AreNew, time_words, maybe_words, item_words, FitsItem, joined, Writes}
use Rattle.script_places.specs.Grammar.{IsNumber, is_bounded, RefusedAt}
use Rattle.script_places.proofs.Results.{okay, failed, same_ok, same_cause}
use Rattle.script_places.proofs.Decimals.{is_decimal, decimal_is}
use Rattle.script_places.proofs.Cuts.{at_most, is_at_most, below, same_words}
use Rattle.script_places.proofs.CellWords.{cells_are, cells_again, cells_not, cells_refused}
use Rattle.script_places.proofs.ColumnWords.{column_is, column_again, column_not, column_refused, columns_are, columns_again, columns_not, columns_refused}
use Rattle.script_places.proofs.IdentWords.{ident_is, ident_again, ident_not, no_ident}
use Rattle.script_places.proofs.Slashes.{some_group, joined_groups, groups_joined}
use Rattle.script_places.proofs.ItemWords.{no_slashes, items_count, items_again, items_are, items_not, items_refused}
use Rattle.script_places.proofs.TimeWords.{time_is, time_again, time_not, no_time, maybe_is, maybe_again, maybe_not, no_maybe}
use Rattle.script_places.proofs.DatabaseWords.{database_is, database_again, database_not, no_database}

abbrev put : {A : Type 0} → List Word → A → Result (A × List Word) Cause
put ws x = Ok (x, ws)

-- what let something through
took : {A : Type 0} (b : Bool) (x : A) (d : Cause) (y : A) → cond b (okay x) (Err d) ≡ Ok y → (b ≡ true) × (x ≡ y)
took true x d y e = (refl, same_ok x y e)
took false x d y e = absurd cc

took_some : {A : Type 0} (o : Option A) (d : Cause) (ws : List Word) (p : A × List Word) → (wanted d o >>= λ x. okay (x, ws)) ≡ Ok p → (x : A) × (o ≡ Some x) × ((x, ws) ≡ p)
took_some (Some x) d ws p e = (x, refl, same_ok (x, ws) p e)
took_some None d ws p e = absurd cc

took_one : {A : Type 0} (r : Result A Cause) (ws : List Word) (p : A × List Word) → (r >>= λ x. okay (x, ws)) ≡ Ok p → (x : A) × (r ≡ Ok x) × ((x, ws) ≡ p)
took_one (Ok x) ws p e = (x, refl, same_ok (x, ws) p e)
took_one (Err d) ws p e = absurd cc

-- and what didn't
not_took : {A : Type 0} (b : Bool) (x : A) (d cause : Cause) → cond b (okay x) (Err d) ≡ Err cause → (b ≡ false) × (cause ≡ d)
not_took true x d cause e = absurd cc
not_took {A = A} false x d cause e = (refl, sym (same_cause {A = A} d cause e))

not_some : {A : Type 0} (o : Option A) (d : Cause) (ws : List Word) (cause : Cause) → (wanted d o >>= put ws) ≡ Err cause → (o ≡ None) × (cause ≡ d)
not_some (Some x) d ws cause e = absurd cc
not_some {A = A} None d ws cause e = (refl, sym (same_cause {A = A × List Word} d cause e))

not_one : {A : Type 0} (r : Result A Cause) (ws : List Word) (cause : Cause) → (r >>= put ws) ≡ Err cause → r ≡ Err cause
not_one (Ok x) ws cause e = absurd cc
not_one {A = A} (Err d) ws cause e = ap failed (same_cause {A = A × List Word} d cause e)

-- numbers within bounds
some_if : (b : Bool) (k n : ℕ) → cond b (Some k) None ≡ Some n → (b ≡ true) × (k ≡ n)
some_if true k n e = (refl, cc)
some_if false k n e = absurd cc

abbrev found : ℕ → Option ℕ
found n = Some n

least_is : (least n : ℕ) (o : Option ℕ) → from_least least o ≡ Some n → (o ≡ Some n) × (least ≤ n)
least_is least n None e = absurd cc
least_is least n (Some k) e =
    let t = some_if (nat_le least k) k n e in
    let low : least ≤ k = at_most least k t.0 in
    (ap found t.1, omega (arith, t.1, low))

numbered : (least most n : ℕ) (w : Word) → most < 2 ^ 64 → number_in least most w ≡ Some n → (w ≡ decimal n) × (least ≤ n) × (n ≤ most)
numbered least most n w small e =
    let t = least_is least n (number_of most w) e in
    let d = is_decimal most n w small t.0 in
    (d.0, t.1, d.1)

number_again : (least most n : ℕ) (w : Word) → most < 2 ^ 64 → w ≡ decimal n → least ≤ n → n ≤ most → number_in least most w ≡ Some n
number_again least most n w small is low high =
    let test : nat_le least n ≡ true = is_at_most least n low in
    let e : number_of most w ≡ Some n = ap (number_of most) is ∙ decimal_is most n small high in
    rw (e, test) refl

number_not : (least most : ℕ) (w : Word) → most < 2 ^ 64 → number_in least most w ≡ None → ¬ (IsNumber least most w)
number_not least most w small none is =
    absurd (let e : None ≡ found is.0 = sym none ∙ number_again least most is.0 w small is.1 is.2 is.3 in cc)

none_by : (least most : ℕ) (w : Word) (o : Option ℕ) → most < 2 ^ 64 → number_in least most w ≡ o → ¬ (IsNumber least most w) → o ≡ None
none_by least most w None small is none = refl
none_by least most w (Some n) small is none = absurd (let i = numbered least most n w small is in none (n, i.0, i.1, i.2))

no_number : (least most : ℕ) (w : Word) → most < 2 ^ 64 → ¬ (IsNumber least most w) → number_in least most w ≡ None
no_number least most w small none = none_by least most w (number_in least most w) small refl none

-- the words before those that are left write the meaning, and those that are left fit the other places
pub record Stands (slots : ℕ) (place : Place) (rest : List Place) (ws : List Word) (p : Meaning place × List Word) : Type 0 where
  pub front : List Word
  pub whole : ws ≡ front ++ p.1
  pub writes : Writes slots place p.0 front
  pub fit : fits rest p.1 ≡ true

-- a place that takes all is the last
fit_end : (rest : List Place) → rest ≡ [] → fits rest [] ≡ true
unfolding fits
fit_end [] e = refl
fit_end (place ∷ rest) e = absurd cc

if_takes : (b x y : Bool) → b ≡ true → cond b x y ≡ x
if_takes true x y e = refl
if_takes false x y e = absurd cc

counted : (place : Place) (rest : List Place) (ws : List Word) → takes_rest place ≡ true → fits (place ∷ rest) ws ≡ true → rest_fits place ws ≡ true
unfolding fits
counted place rest [] takes fit = (and_parts (takes_rest place) (rest_fits place []) fit).1
counted place rest (w ∷ ws) takes fit = sym (if_takes (takes_rest place) (rest_fits place (w ∷ ws)) (word_fits place w && fits rest ws) takes) ∙ fit

counts : (place : Place) (rest : List Place) (ws : List Word) → takes_rest place ≡ true → rest_fits place ws ≡ true → fits (place ∷ rest) ws ≡ true
unfolding fits
counts place rest [] takes fit = and_from (takes_rest place) (rest_fits place []) takes fit
counts place rest (w ∷ ws) takes fit = if_takes (takes_rest place) (rest_fits place (w ∷ ws)) (word_fits place w && fits rest ws) takes ∙ fit

one_word : (slots : ℕ) (place : Place) (rest : List Place) (w : Word) (ws : List Word) (x : Meaning place) (p : Meaning place × List Word)
    → (x, ws) ≡ p → Writes slots place x (w ∷ []) → fits rest ws ≡ true → Stands slots place rest (w ∷ ws) p
one_word slots place rest w ws x p same writes fit =
    subst (λ (q : Meaning place × List Word). Stands slots place rest (w ∷ ws) q) same (record { front = w ∷ []; whole = refl; writes = writes; fit = fit })

all_words : (slots : ℕ) (place : Place) (rest : List Place) (ws : List Word) (x : Meaning place) (p : Meaning place × List Word)
    → (x, []) ≡ p → Writes slots place x ws → rest ≡ [] → Stands slots place rest ws p
all_words slots place rest ws x p same writes last =
    subst (λ (q : Meaning place × List Word). Stands slots place rest ws q) same (record { front = ws; whole = sym (append-nil ws); writes = writes; fit = fit_end rest last })

between : (n : ℕ) → (nat_le 1 n && nat_le n 16) ≡ true → (1 ≤ n) × (n ≤ 16)
between n e = let p = and_parts (nat_le 1 n) (nat_le n 16) e in (at_most 1 n p.0, at_most n 16 p.1)

-- what is made of the words is what they write
pub stands : (slots : ℕ) (place : Place) (rest : List Place) (ws : List Word) (p : Meaning place × List Word) → slots < 2 ^ 64 → is_bounded place ≡ true
    → (takes_rest place ≡ true → rest ≡ []) → fits (place ∷ rest) ws ≡ true → at slots place ws ≡ Ok p → Stands slots place rest ws p
unfolding fits name_at database_at key_at number_at column_at
stands slots places.Tablets rest [] p few bound last fit e = absurd cc
stands slots places.Tablets rest (w ∷ ws) p few bound last fit e =
    let f = and_parts (bytes_eq w (codes "tablets")) (fits rest ws) fit in
    one_word slots places.Tablets rest w ws tt p (same_ok (tt, ws) p e) (ap (λ (v : Word). v ∷ []) (same_words w (codes "tablets") f.0)) f.1
stands slots places.Name rest [] p few bound last fit e = absurd cc
stands slots places.Name rest (w ∷ ws) p few bound last fit e =
    let t = took (is_name w) (w, ws) BadName p e in
    one_word slots places.Name rest w ws w p t.1 (refl, t.0) fit
stands slots places.Database rest [] p few bound last fit e = absurd cc
stands slots places.Database rest (w ∷ ws) p few bound last fit e =
    let t = took (is_name (unprefixed w)) (unprefixed w, ws) BadName p e in
    one_word slots places.Database rest w ws (unprefixed w) p t.1 (w, refl, database_is w t.0) fit
stands slots places.Key rest [] p few bound last fit e = absurd cc
stands slots places.Key rest (w ∷ ws) p few bound last fit e =
    let t = took (is_key w) (w, ws) BadKey p e in
    one_word slots places.Key rest w ws w p t.1 (refl, t.0) fit
stands slots (places.Number least most) rest [] p few bound last fit e = absurd cc
stands slots (places.Number least most) rest (w ∷ ws) p few bound last fit e =
    let t = took_some (number_in least most w) BadNumber ws p e in
    let n = numbered least most t.0 w (below most (2 ^ 64) bound) t.1 in
    one_word slots (places.Number least most) rest w ws t.0 p t.2 (ap (λ (v : Word). v ∷ []) n.0, n.1, n.2) fit
stands slots places.Slot rest [] p few bound last fit e = absurd cc
stands slots places.Slot rest (w ∷ ws) p few bound last fit e =
    let t = took_some (number_in 1 slots w) NoSuchSlot ws p e in
    let n = numbered 1 slots t.0 w few t.1 in
    one_word slots places.Slot rest w ws t.0 p t.2 (ap (λ (v : Word). v ∷ []) n.0, n.1, n.2) fit
stands slots (places.Identifier kind) rest [] p few bound last fit e = absurd cc
stands slots (places.Identifier kind) rest (w ∷ ws) p few bound last fit e =
    let t = took_some (ident_of (kind_of kind) w) BadIdentifier ws p e in
    one_word slots (places.Identifier kind) rest w ws t.0 p t.2 (w, refl, ident_is (kind_of kind) w t.0 t.1) fit
stands slots places.Column rest [] p few bound last fit e = absurd cc
stands slots places.Column rest (w ∷ ws) p few bound last fit e =
    let t = took_one (column_of w) ws p e in
    let i = column_is w t.0 t.1 in
    one_word slots places.Column rest w ws t.0 p t.2 (ap (λ (v : Word). v ∷ []) i.0, i.1) fit
stands slots places.Time rest ws p few bound last fit e =
    let t = took_some (time_of ws) BadTime [] p e in
    all_words slots places.Time rest ws t.0 p t.2 (time_is ws t.0 t.1) (last refl)
stands slots places.MaybeTime rest ws p few bound last fit e =
    let t = took_some (maybe_time ws) BadTime [] p e in
    all_words slots places.MaybeTime rest ws t.0 p t.2 (maybe_is ws t.0 t.1) (last refl)
stands slots places.Cells rest ws p few bound last fit e =
    let t = took_one (cells_from [] ws) [] p e in
    let c = cells_are ws [] t.0 t.1 in
    let words : ws ≡ map cell_word t.0 = c.2 ∙ ap (map cell_word) (sym c.1) in
    let count = between (length ws) (counted places.Cells rest ws refl fit) in
    let long : length ws ≡ length t.0 = ap length words ∙ length-map t.0 cell_word in
    all_words slots places.Cells rest ws t.0 p t.2 (words, subst (λ (cells : List NamedCell). AllByRecursion FitsCell cells) (sym c.1) c.3, omega (arith, count.0, long), omega (arith, count.1, long)) (last refl)
stands slots places.Columns rest ws p few bound last fit e =
    let t = took_one (columns_from [] ws) [] p e in
    let c = columns_are ws [] t.0 t.1 in
    let words : ws ≡ map column_word t.0 = c.2 ∙ ap (map column_word) (sym c.1) in
    let count = between (length ws) (counted places.Columns rest ws refl fit) in
    let long : length ws ≡ length t.0 = ap length words ∙ length-map t.0 column_word in
    all_words slots places.Columns rest ws t.0 p t.2
    (words, subst (λ (columns : List NewColumn). AllByRecursion FitsColumn columns) (sym c.1) c.3, subst (λ (columns : List NewColumn). AreNew [] columns) (sym c.1) c.4, omega (arith, count.0, long), omega (arith, count.1, long))
    (last refl)
stands slots places.Items rest ws p few bound last fit e =
    let t = took_one (items_from [] (groups ws)) [] p e in
    let count = and_parts (list_all item_fits (groups ws)) (nat_le (length (groups ws)) 64) (counted places.Items rest ws refl fit) in
    let high : length (groups ws) ≤ 64 = at_most (length (groups ws)) 64 count.1 in
    let c = items_are (groups ws) [] t.0 count.0 t.1 in
    let found : groups ws ≡ map item_words t.0 = c.2 ∙ ap (map item_words) (sym c.1) in
    let long : length (groups ws) ≡ length t.0 = ap length found ∙ length-map t.0 item_words in
    all_words slots places.Items rest ws t.0 p t.2
    (sym (joined_groups ws) ∙ ap joined found, subst (λ (items : List NamedItem). AllByRecursion FitsItem items) (sym c.1) c.3, omega (arith, some_group ws, long), omega (arith, high, long))
    (last refl)

-- and words that write something are read as it
abbrev read_one : (slots : ℕ) (place : Place) → List Word → List Word → Result (Meaning place × List Word) Cause
read_one slots place others front = at slots place (front ++ others)

number_first : (cause : Cause) (least most n : ℕ) (others : List Word) → most < 2 ^ 64 → least ≤ n → n ≤ most → number_at cause least most (decimal n ∷ others) ≡ Ok (n, others)
unfolding number_at
number_first cause least most n others small low high = rw (number_again least most n (decimal n) small refl low high) refl

pub read_again : (slots : ℕ) (place : Place) (x : Meaning place) (front others : List Word) → slots < 2 ^ 64 → is_bounded place ≡ true
    → (takes_rest place ≡ true → others ≡ []) → Writes slots place x front → at slots place (front ++ others) ≡ Ok (x, others)
unfolding name_at database_at key_at column_at
read_again slots places.Tablets x front others few bound last w = ap (read_one slots places.Tablets others) w
read_again slots places.Name x front others few bound last w = ap (read_one slots places.Name others) w.0 ∙ rw w.1 refl
read_again slots places.Database x front others few bound last w =
    ap (read_one slots places.Database others) w.1 ∙ rw (database_again x w.0 w.2, w.2.0) refl
read_again slots places.Key x front others few bound last w = ap (read_one slots places.Key others) w.0 ∙ rw w.1 refl
read_again slots (places.Number least most) x front others few bound last w =
    ap (read_one slots (places.Number least most) others) w.0 ∙ number_first BadNumber least most x others (below most (2 ^ 64) bound) w.1 w.2
read_again slots places.Slot x front others few bound last w = ap (read_one slots places.Slot others) w.0 ∙ number_first NoSuchSlot 1 slots x others few w.1 w.2
read_again slots (places.Identifier kind) x front others few bound last w =
    ap (read_one slots (places.Identifier kind) others) w.1 ∙ rw (ident_again (kind_of kind) x w.0 w.2) refl
read_again slots places.Column x front others few bound last w = ap (read_one slots places.Column others) w.0 ∙ rw (column_again x w.1) refl
read_again slots places.Time x front others few bound last w =
    let e : front ++ others ≡ time_words x = ap (λ (vs : List Word). front ++ vs) (last refl) ∙ append-nil front ∙ w.0 in
    let t : time_of (front ++ others) ≡ Some x = ap time_of e ∙ time_again x w.1 in
    rw t (ap (λ (vs : List Word). okay (x, vs)) (sym (last refl)))
read_again slots places.MaybeTime x front others few bound last w =
    let e : front ++ others ≡ maybe_words x = ap (λ (vs : List Word). front ++ vs) (last refl) ∙ append-nil front ∙ w.0 in
    let t : maybe_time (front ++ others) ≡ Some x = ap maybe_time e ∙ maybe_again x w.1 in
    rw t (ap (λ (vs : List Word). okay (x, vs)) (sym (last refl)))
read_again slots places.Cells x front others few bound last w =
    let e : front ++ others ≡ map cell_word x = ap (λ (vs : List Word). front ++ vs) (last refl) ∙ append-nil front ∙ w.0 in
    let t : cells_from [] (front ++ others) ≡ Ok x = ap (cells_from []) e ∙ cells_again x [] w.1 in
    rw t (ap (λ (vs : List Word). okay (x, vs)) (sym (last refl)))
read_again slots places.Columns x front others few bound last w =
    let e : front ++ others ≡ map column_word x = ap (λ (vs : List Word). front ++ vs) (last refl) ∙ append-nil front ∙ w.0 in
    let t : columns_from [] (front ++ others) ≡ Ok x = ap (columns_from []) e ∙ columns_again x [] w.1 w.2 in
    rw t (ap (λ (vs : List Word). okay (x, vs)) (sym (last refl)))
read_again slots places.Items x front others few bound last w =
    let e : front ++ others ≡ joined (map item_words x) = ap (λ (vs : List Word). front ++ vs) (last refl) ∙ append-nil front ∙ w.0 in
    let long : length (map item_words x) ≡ length x = length-map x item_words in
    let cut : groups (front ++ others) ≡ map item_words x = ap groups e ∙ groups_joined (map item_words x) (no_slashes x w.1) (omega (arith, w.2, long)) in
    let t : items_from [] (groups (front ++ others)) ≡ Ok x = ap (items_from []) cut ∙ items_again x [] w.1 in
    rw t (ap (λ (vs : List Word). okay (x, vs)) (sym (last refl)))

-- they are as many as the place asks for
time_count : (time : Time) → rest_fits places.Time (time_words time) ≡ true
time_count (Micros n) = refl
time_count (MinusMinutes n) = refl
time_count (MinusSeconds n) = refl
time_count (Exact n) = refl

maybe_count : (time : Option Time) → rest_fits places.MaybeTime (maybe_words time) ≡ true
maybe_count None = refl
maybe_count (Some (Micros n)) = refl
maybe_count (Some (MinusMinutes n)) = refl
maybe_count (Some (MinusSeconds n)) = refl
maybe_count (Some (Exact n)) = refl

fit_first : (place : Place) (rest : List Place) (w : Word) (others : List Word) → takes_rest place ≡ false → word_fits place w ≡ true → fits rest others ≡ true
    → fits (place ∷ rest) (w ∷ others) ≡ true
unfolding fits
fit_first place rest w others one word fit = rw (one, word, fit) refl

abbrev fit_all : List Place → Place → List Word → List Word → Bool
fit_all rest place others front = fits (place ∷ rest) (front ++ others)

pub fit_again : (slots : ℕ) (place : Place) (rest : List Place) (x : Meaning place) (front others : List Word)
    → (takes_rest place ≡ true → others ≡ []) → Writes slots place x front → fits rest others ≡ true → fits (place ∷ rest) (front ++ others) ≡ true
fit_again slots places.Tablets rest x front others last w fit = ap (fit_all rest places.Tablets others) w ∙ fit_first places.Tablets rest (codes "tablets") others refl refl fit
fit_again slots places.Name rest x front others last w fit = ap (fit_all rest places.Name others) w.0 ∙ fit_first places.Name rest x others refl refl fit
fit_again slots places.Database rest x front others last w fit =
    ap (fit_all rest places.Database others) w.1 ∙ fit_first places.Database rest w.0 others refl refl fit
fit_again slots places.Key rest x front others last w fit = ap (fit_all rest places.Key others) w.0 ∙ fit_first places.Key rest x others refl refl fit
fit_again slots (places.Number least most) rest x front others last w fit =
    ap (fit_all rest (places.Number least most) others) w.0 ∙ fit_first (places.Number least most) rest (decimal x) others refl refl fit
fit_again slots places.Slot rest x front others last w fit = ap (fit_all rest places.Slot others) w.0 ∙ fit_first places.Slot rest (decimal x) others refl refl fit
fit_again slots (places.Identifier kind) rest x front others last w fit =
    ap (fit_all rest (places.Identifier kind) others) w.1 ∙ fit_first (places.Identifier kind) rest w.0 others refl refl fit
fit_again slots places.Column rest x front others last w fit = ap (fit_all rest places.Column others) w.0 ∙ fit_first places.Column rest (column_word x) others refl refl fit
fit_again slots places.Time rest x front others last w fit =
    let e : front ++ others ≡ time_words x = ap (λ (vs : List Word). front ++ vs) (last refl) ∙ append-nil front ∙ w.0 in
    ap (fits (places.Time ∷ rest)) e ∙ counts places.Time rest (time_words x) refl (time_count x)
fit_again slots places.MaybeTime rest x front others last w fit =
    let e : front ++ others ≡ maybe_words x = ap (λ (vs : List Word). front ++ vs) (last refl) ∙ append-nil front ∙ w.0 in
    ap (fits (places.MaybeTime ∷ rest)) e ∙ counts places.MaybeTime rest (maybe_words x) refl (maybe_count x)
fit_again slots places.Cells rest x front others last w fit =
    let e : front ++ others ≡ map cell_word x = ap (λ (vs : List Word). front ++ vs) (last refl) ∙ append-nil front ∙ w.0 in
    let long : length (map cell_word x) ≡ length x = length-map x cell_word in
    ap (fits (places.Cells ∷ rest)) e ∙ counts places.Cells rest (map cell_word x) refl
    (and_from (nat_le 1 (length (map cell_word x))) (nat_le (length (map cell_word x)) 16) (is_at_most _ _ (omega (arith, w.2, long))) (is_at_most _ _ (omega (arith, w.3, long))))
fit_again slots places.Columns rest x front others last w fit =
    let e : front ++ others ≡ map column_word x = ap (λ (vs : List Word). front ++ vs) (last refl) ∙ append-nil front ∙ w.0 in
    let long : length (map column_word x) ≡ length x = length-map x column_word in
    ap (fits (places.Columns ∷ rest)) e ∙ counts places.Columns rest (map column_word x) refl
    (and_from (nat_le 1 (length (map column_word x))) (nat_le (length (map column_word x)) 16) (is_at_most _ _ (omega (arith, w.3, long))) (is_at_most _ _ (omega (arith, w.4, long))))
fit_again slots places.Items rest x front others last w fit =
    let e : front ++ others ≡ joined (map item_words x) = ap (λ (vs : List Word). front ++ vs) (last refl) ∙ append-nil front ∙ w.0 in
    let long : length (map item_words x) ≡ length x = length-map x item_words in
    let cut : groups (joined (map item_words x)) ≡ map item_words x = groups_joined (map item_words x) (no_slashes x w.1) (omega (arith, w.2, long)) in
    ap (fits (places.Items ∷ rest)) e ∙ counts places.Items rest (joined (map item_words x)) refl
    (ap items_fit cut ∙ and_from (list_all item_fits (map item_words x)) (nat_le (length (map item_words x)) 64) (items_count x w.1) (is_at_most _ _ (omega (arith, w.3, long))))

-- what is refused has no meaning, for that cause
pub refused_there : (slots : ℕ) (place : Place) (rest : List Place) (cause : Cause) (ws : List Word) → slots < 2 ^ 64 → is_bounded place ≡ true
    → fits (place ∷ rest) ws ≡ true → at slots place ws ≡ Err cause → RefusedAt slots place cause ws
unfolding fits name_at database_at key_at number_at column_at
refused_there slots places.Tablets rest cause [] few bound fit e = absurd cc
refused_there slots places.Tablets rest cause (w ∷ ws) few bound fit e = absurd cc
refused_there slots places.Name rest cause [] few bound fit e = absurd cc
refused_there slots places.Name rest cause (w ∷ ws) few bound fit e = not_took (is_name w) (w, ws) BadName cause e
refused_there slots places.Database rest cause [] few bound fit e = absurd cc
refused_there slots places.Database rest cause (w ∷ ws) few bound fit e =
    let n = not_took (is_name (unprefixed w)) (unprefixed w, ws) BadName cause e in (database_not w n.0, n.1)
refused_there slots places.Key rest cause [] few bound fit e = absurd cc
refused_there slots places.Key rest cause (w ∷ ws) few bound fit e = not_took (is_key w) (w, ws) BadKey cause e
refused_there slots (places.Number least most) rest cause [] few bound fit e = absurd cc
refused_there slots (places.Number least most) rest cause (w ∷ ws) few bound fit e =
    let n = not_some (number_in least most w) BadNumber ws cause e in (number_not least most w (below most (2 ^ 64) bound) n.0, n.1)
refused_there slots places.Slot rest cause [] few bound fit e = absurd cc
refused_there slots places.Slot rest cause (w ∷ ws) few bound fit e =
    let n = not_some (number_in 1 slots w) NoSuchSlot ws cause e in (number_not 1 slots w few n.0, n.1)
refused_there slots (places.Identifier kind) rest cause [] few bound fit e = absurd cc
refused_there slots (places.Identifier kind) rest cause (w ∷ ws) few bound fit e =
    let n = not_some (ident_of (kind_of kind) w) BadIdentifier ws cause e in (ident_not (kind_of kind) w n.0, n.1)
refused_there slots places.Column rest cause [] few bound fit e = absurd cc
refused_there slots places.Column rest cause (w ∷ ws) few bound fit e = column_not w cause (not_one (column_of w) ws cause e)
refused_there slots places.Time rest cause ws few bound fit e = let n = not_some (time_of ws) BadTime [] cause e in (time_not ws n.0, n.1)
refused_there slots places.MaybeTime rest cause ws few bound fit e = let n = not_some (maybe_time ws) BadTime [] cause e in (maybe_not ws n.0, n.1)
refused_there slots places.Cells rest cause ws few bound fit e = cells_not ws [] cause (not_one (cells_from [] ws) [] cause e)
refused_there slots places.Columns rest cause ws few bound fit e = columns_not ws [] cause (not_one (columns_from [] ws) [] cause e)
refused_there slots places.Items rest cause ws few bound fit e =
    let count = and_parts (list_all item_fits (groups ws)) (nat_le (length (groups ws)) 64) (counted places.Items rest ws refl fit) in
    items_not (groups ws) [] cause count.0 (not_one (items_from [] (groups ws)) [] cause e)

pub refused_again : (slots : ℕ) (place : Place) (cause : Cause) (ws : List Word) → slots < 2 ^ 64 → is_bounded place ≡ true
    → RefusedAt slots place cause ws → at slots place ws ≡ Err cause
unfolding name_at database_at key_at number_at column_at
refused_again slots places.Tablets cause ws few bound r = absurd r
refused_again slots places.Name cause [] few bound r = absurd r
refused_again slots places.Name cause (w ∷ ws) few bound r = rw r.0 (ap failed (sym r.1))
refused_again slots places.Database cause [] few bound r = absurd r
refused_again slots places.Database cause (w ∷ ws) few bound r = rw (no_database w r.0) (ap failed (sym r.1))
refused_again slots places.Key cause [] few bound r = absurd r
refused_again slots places.Key cause (w ∷ ws) few bound r = rw r.0 (ap failed (sym r.1))
refused_again slots (places.Number least most) cause [] few bound r = absurd r
refused_again slots (places.Number least most) cause (w ∷ ws) few bound r =
    let none = no_number least most w (below most (2 ^ 64) bound) r.0 in rw none (ap failed (sym r.1))
refused_again slots places.Slot cause [] few bound r = absurd r
refused_again slots places.Slot cause (w ∷ ws) few bound r =
    let none = no_number 1 slots w few r.0 in rw none (ap failed (sym r.1))
refused_again slots (places.Identifier kind) cause [] few bound r = absurd r
refused_again slots (places.Identifier kind) cause (w ∷ ws) few bound r = rw (no_ident (kind_of kind) w r.0) (ap failed (sym r.1))
refused_again slots places.Column cause [] few bound r = absurd r
refused_again slots places.Column cause (w ∷ ws) few bound r = rw (column_refused w cause r.0 r.1) refl
refused_again slots places.Time cause ws few bound r = rw (no_time ws r.0) (ap failed (sym r.1))
refused_again slots places.MaybeTime cause ws few bound r = rw (no_maybe ws r.0) (ap failed (sym r.1))
refused_again slots places.Cells cause ws few bound r = rw (cells_refused ws [] cause r) refl
refused_again slots places.Columns cause ws few bound r = rw (columns_refused ws [] cause r) refl
refused_again slots places.Items cause ws few bound r = rw (items_refused (groups ws) [] cause r) refl
