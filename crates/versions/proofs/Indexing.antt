-- One more version in the index.
use Rattle.std.proofs.Common.{◌≡◌, ℕ, zero, suc, ◌+◌, ◌*◌, ◌<◌, ◌≤◌, max, Bool, true, false, List, [], ◌∷◌, ◌++◌, length, map, take, fold, arith, refl, sym, ap, subst, ◌∙◌, append-nil, Some, None}
use Rattle.std.specs.Prelude.{nat_lt, slice_get, if◌then◌else◌}
use Rattle.std.specs.declared.option.Option.{Option}
use Rattle.std.specs.Option.{IsSome}
use Rattle.std.specs.Str.{bytes_eq}
use Rattle.std.specs.Ordering.{nat_cmp, is_eq}
use Rattle.std.specs.Cmp.Lexicographic.{slice_cmp}
use Rattle.std.specs.BTreeMap.{BTreeMap, get}
use Rattle.std.proofs.lemmas.Bool.{and_parts, and_from, ltb-true, lt-ltb, le-leb}
use Rattle.std.proofs.lemmas.List.Sums.{fold-append}
use Rattle.std.proofs.lemmas.Map.Text.{is_eq-slice_cmp}
use Rattle.std.proofs.lemmas.Slice.Eq.{bytes_eq-Decides}
use Rattle.row_values.specs.Rows.{applied, absent_row}
use Rattle.row_values.specs.declared.rows.Row.{Row}
use Rattle.row_values.specs.Store.{Version, read_step, read_of}
use Rattle.versions.specs.Indexed.{of_key, with_found, chosen, are_below, row_after, bare_entry, IsEntry, EntryOf, Indexes}
use Rattle.versions.specs.declared.index.KeyEntry.{KeyEntry}
use Rattle.versions.specs.declared.index.Past.{Past}

slice_get-more : (log more : List Version) (place : ℕ) → place < length log → slice_get (log ++ more) place ≡ slice_get log place
slice_get-more [] more place lt = absurd (omega arith)
slice_get-more (v ∷ log) more zero lt = refl
slice_get-more (v ∷ log) more (suc place) lt = slice_get-more log more place (omega arith)

slice_get-end : (log : List Version) (v : Version) → slice_get (log ++ v ∷ []) (length log) ≡ Some v
slice_get-end [] v = refl
slice_get-end (w ∷ log) v = slice_get-end log v

chosen-more : (log more : List Version) (past : List Past) → are_below (length log) past ≡ true → chosen (log ++ more) past ≡ chosen log past
chosen-more log more [] below = refl
chosen-more log more (p ∷ ps) below =
    let both = and_parts (nat_lt p.place (length log)) (are_below (length log) ps) below in
    rw (slice_get-more log more p.place (ltb-true p.place (length log) both.0), chosen-more log more ps both.1) refl

found-append : (o : Option Version) (xs ys : List Version) → with_found o (xs ++ ys) ≡ with_found o xs ++ ys
found-append None xs ys = refl
found-append (Some v) xs ys = refl

pub chosen-append : (log : List Version) (past more : List Past) → chosen log (past ++ more) ≡ chosen log past ++ chosen log more
chosen-append log [] more = refl
chosen-append log (p ∷ ps) more = rw (chosen-append log ps more) (found-append (slice_get log p.place) (chosen log ps) (chosen log more))

of_key_step : (t : Bool) (v : Version) (xs ys : List Version) → (if t then v ∷ (xs ++ ys) else xs ++ ys) ≡ (if t then v ∷ xs else xs) ++ ys
of_key_step true v xs ys = refl
of_key_step false v xs ys = refl

pub of_key-append : (key : List ℕ) (log more : List Version) → of_key key (log ++ more) ≡ of_key key log ++ of_key key more
of_key-append key [] more = refl
of_key-append key (v ∷ log) more = rw (of_key-append key log more) (of_key_step (bytes_eq v.key key) v (of_key key log) (of_key key more))

are_below-more : (n : ℕ) (past : List Past) → are_below n past ≡ true → are_below (n + 1) past ≡ true
are_below-more n [] below = refl
are_below-more n (p ∷ ps) below =
    let both = and_parts (nat_lt p.place n) (are_below n ps) below in
    let lt : p.place < n = ltb-true p.place n both.0 in
    and_from _ _ (lt-ltb p.place (n + 1) (omega arith)) (are_below-more n ps both.1)

are_below-append : (n : ℕ) (past : List Past) (p : Past) → p.place ≡ n → are_below n past ≡ true → are_below (n + 1) (past ++ p ∷ []) ≡ true
are_below-append n [] p is below = and_from _ _ (lt-ltb p.place (n + 1) (omega arith)) refl
are_below-append n (q ∷ ps) p is below =
    let both = and_parts (nat_lt q.place n) (are_below n ps) below in
    let lt : q.place < n = ltb-true q.place n both.0 in
    and_from _ _ (lt-ltb q.place (n + 1) (omega arith)) (are_below-append n ps p is both.1)

read_of-next : (log : List Version) (v : Version) (key : List ℕ) (x : ℕ) → read_of (log ++ v ∷ []) key x ≡ read_step key x (read_of log key x) v
read_of-next log v key x = fold-append (read_step key x) absent_row log (v ∷ [])

pub length-next : (log : List Version) (v : Version) → length (log ++ v ∷ []) ≡ length log + 1
length-next [] v = refl
length-next (w ∷ log) v = omega (arith, length-next log v)

pub other_keys : (key : List ℕ) (v : Version) → bytes_eq v.key key ≡ false → of_key key (v ∷ []) ≡ []
other_keys key v apart = rw apart refl

own_key : (key : List ℕ) (v : Version) → bytes_eq v.key key ≡ true → of_key key (v ∷ []) ≡ v ∷ []
own_key key v same = rw same refl

read_other : (key : List ℕ) (x : ℕ) (row : Row) (v : Version) → bytes_eq v.key key ≡ false → read_step key x row v ≡ row
read_other key x row v apart = rw apart refl

read_own : (key : List ℕ) (x : ℕ) (row : Row) (v : Version) → bytes_eq v.key key ≡ true → v.stamp ≤ x → read_step key x row v ≡ applied row v.op
read_own key x row v same le = rw (same, le-leb v.stamp x le) refl

past_noted : (log : List Version) (v : Version) (past : List Past) (p : Past) → p.place ≡ length log → are_below (length log) past ≡ true
    → chosen (log ++ v ∷ []) (past ++ p ∷ []) ≡ chosen log past ++ v ∷ []
past_noted log v past p is below =
    rw (chosen-append (log ++ v ∷ []) past (p ∷ []), chosen-more log (v ∷ []) past below, is, slice_get-end log v) refl

map_append : {A B : Type 0} (f : A → B) (xs ys : List A) → map f (xs ++ ys) ≡ map f xs ++ map f ys
map_append f [] ys = refl
map_append f (x ∷ xs) ys = ap (λ zs. f x ∷ zs) (map_append f xs ys)

take_first : (vs more : List Version) (n : ℕ) → n ≤ length vs → take n (vs ++ more) ≡ take n vs
take_first [] more zero le = refl
take_first [] more (suc n) le = absurd (omega arith)
take_first (v ∷ vs) more zero le = refl
take_first (v ∷ vs) more (suc n) le = ap (λ ws. v ∷ ws) (take_first vs more n (omega arith))

length_more : (vs more : List Version) (n : ℕ) → n ≤ length vs → n ≤ length (vs ++ more)
length_more [] more n le = omega arith
length_more (v ∷ vs) more zero le = omega arith
length_more (v ∷ vs) more (suc n) le = let rest = length_more vs more n (omega arith) in omega arith

own_more : (key : List ℕ) (log : List Version) (v : Version) → bytes_eq v.key key ≡ true → of_key key (log ++ v ∷ []) ≡ of_key key log ++ v ∷ []
own_more key log v same = of_key-append key log (v ∷ []) ∙ ap (λ vs. of_key key log ++ vs) (own_key key v same)

other_more : (key : List ℕ) (log : List Version) (v : Version) → bytes_eq v.key key ≡ false → of_key key (log ++ v ∷ []) ≡ of_key key log
other_more key log v apart = of_key-append key log (v ∷ []) ∙ (rw (other_keys key v apart) (append-nil (of_key key log)))

-- the entry of another key stays right
pub entry_other : (log : List Version) (v : Version) (key : List ℕ) (e : KeyEntry) → bytes_eq v.key key ≡ false → IsEntry log key e → IsEntry (log ++ v ∷ []) key e
entry_other log v key e apart h = let same = sym (other_more key log v apart) in record {
  within = rw (length-next log v) (are_below-more (length log) e.past h.within);
  versions = chosen-more log (v ∷ []) e.past h.within ∙ h.versions ∙ same;
  stamps = h.stamps ∙ ap (map (λ u. u.stamp)) same;
  marks = λ j m is. let k = h.marks j m is in
      let P : List Version → Type 0 = λ vs. ((j + 1) * 4 ≤ length vs) × (m ≡ row_after (take ((j + 1) * 4) vs)) in subst P same k;
  row = h.row ∙ ap row_after same;
  current = λ x le. read_of-next log v key x ∙ read_other key x (read_of log key x) v apart ∙ h.current x le;
}

-- the entry is the old one with one more version
pub record IsNoted (old : KeyEntry) (v : Version) (place : ℕ) (e : KeyEntry) : Type 0 where
  pub past : e.past ≡ old.past ++ record { place = place; stamp = v.stamp } ∷ []
  pub marks : e.marks ≡ old.marks
  pub row : e.row ≡ applied old.row v.op
  pub newest : e.newest ≡ max old.newest v.stamp

-- that of its own key takes it in
pub entry_own : (log : List Version) (v : Version) (key : List ℕ) (old e : KeyEntry) → bytes_eq v.key key ≡ true → IsNoted old v (length log) e → IsEntry log key old
    → IsEntry (log ++ v ∷ []) key e
entry_own log v key old e same n h = let own = of_key key log in let more = sym (own_more key log v same) in let p : Past = record { place = length log; stamp = v.stamp } in record {
  within = rw (length-next log v, n.past) (are_below-append (length log) old.past p refl h.within);
  versions = ap (chosen (log ++ v ∷ [])) n.past ∙ past_noted log v old.past p refl h.within ∙ ap (λ vs. vs ++ v ∷ []) h.versions ∙ more;
  stamps = ap (map (λ q. q.stamp)) n.past ∙ map_append (λ (q : Past). q.stamp) old.past (p ∷ []) ∙ ap (λ ss. ss ++ v.stamp ∷ []) h.stamps
      ∙ sym (map_append (λ (u : Version). u.stamp) own (v ∷ [])) ∙ ap (map (λ u. u.stamp)) more;
  marks = λ j m is. let k = h.marks j m (ap (λ ms. slice_get ms j) (sym n.marks) ∙ is) in
      let P : List Version → Type 0 = λ vs. ((j + 1) * 4 ≤ length vs) × (m ≡ row_after (take ((j + 1) * 4) vs)) in
      subst P more (length_more own (v ∷ []) _ k.0, k.1 ∙ ap row_after (sym (take_first own (v ∷ []) ((j + 1) * 4) k.0)));
  row = n.row ∙ ap (λ r. applied r v.op) h.row ∙ sym (fold-append (λ r u. applied r u.op) absent_row own (v ∷ [])) ∙ ap row_after more;
  current = λ x le. let le2 : max old.newest v.stamp ≤ x = subst (λ (k : ℕ). k ≤ x) n.newest le in
      read_of-next log v key x ∙ read_own key x (read_of log key x) v same (omega arith) ∙ ap (λ r. applied r v.op) (h.current x (omega arith)) ∙ sym n.row;
}

read_of_key_step : (t : Bool) (key : List ℕ) (x : ℕ) (row : Row) (v : Version) (chosen log : List Version) → bytes_eq v.key key ≡ t
    → ((r : Row) → fold (read_step key x) r chosen ≡ fold (read_step key x) r log)
    → fold (read_step key x) row (if t then v ∷ chosen else chosen) ≡ fold (read_step key x) (read_step key x row v) log
read_of_key_step true key x row v chosen log same next = next (read_step key x row v)
read_of_key_step false key x row v chosen log apart next = rw (read_other key x row v apart) (next row)

read_of_key-from : (key : List ℕ) (x : ℕ) (row : Row) (log : List Version) → fold (read_step key x) row (of_key key log) ≡ fold (read_step key x) row log
read_of_key-from key x row [] = refl
read_of_key-from key x row (v ∷ log) = read_of_key_step (bytes_eq v.key key) key x row v (of_key key log) log refl (λ r. read_of_key-from key x r log)

-- a read goes through the versions of its key alone
pub read_of-of_key : (key : List ℕ) (x : ℕ) (log : List Version) → read_of (of_key key log) key x ≡ read_of log key x
read_of-of_key key x log = read_of_key-from key x absent_row log

pub entry_found : (log : List Version) (key : List ℕ) (o : Option KeyEntry) (e : KeyEntry) → Some e ≡ o → EntryOf log key o → IsEntry log key e
entry_found log key o e is h = subst (λ (p : Option KeyEntry). EntryOf log key p) (sym is) h

pub none_found : (log : List Version) (key : List ℕ) (o : Option KeyEntry) (x : ℕ) → None ≡ o → EntryOf log key o → read_of log key x ≡ absent_row
none_found log key o x is h = (subst (λ (p : Option KeyEntry). EntryOf log key p) (sym is) h).current x (omega arith)

pub none_bare : (log : List Version) (key : List ℕ) (o : Option KeyEntry) → None ≡ o → EntryOf log key o → IsEntry log key bare_entry
none_bare log key o is h = subst (λ (p : Option KeyEntry). EntryOf log key p) (sym is) h

-- after is before with the entry e at a key
abbrev pub Sets : BTreeMap (List ℕ) KeyEntry → BTreeMap (List ℕ) KeyEntry → List ℕ → KeyEntry → Type 0
Sets before after key e = (q : List ℕ) → get (slice_cmp nat_cmp) after q ≡ (if is_eq (slice_cmp nat_cmp key q) then Some e else get (slice_cmp nat_cmp) before q)

set_step : (t : Bool) (log log2 : List Version) (key q : List ℕ) (o : Option KeyEntry) (e : KeyEntry) → bytes_eq key q ≡ t → IsEntry log2 key e
    → (bytes_eq key q ≡ false → EntryOf log q o → EntryOf log2 q o) → EntryOf log q o → EntryOf log2 q (if t then Some e else o)
set_step true log log2 key q o e same own other right = subst (λ (k : List ℕ). IsEntry log2 k e) ((bytes_eq-Decides key q).0 same) own
set_step false log log2 key q o e apart own other right = other apart right

index_set : (log log2 : List Version) (key : List ℕ) (before after : BTreeMap (List ℕ) KeyEntry) (e : KeyEntry) → IsEntry log2 key e → Sets before after key e
    → ((q : List ℕ) → bytes_eq key q ≡ false → EntryOf log q (get (slice_cmp nat_cmp) before q) → EntryOf log2 q (get (slice_cmp nat_cmp) before q))
    → Indexes before log → Indexes after log2
index_set log log2 key before after e own sets other right q =
    rw (sets q, is_eq-slice_cmp key q) (set_step (bytes_eq key q) log log2 key q (get (slice_cmp nat_cmp) before q) e refl own (other q) (right q))

-- with the entry of the key that takes the next version in
pub index_noted : (log : List Version) (v : Version) (key : List ℕ) (before after : BTreeMap (List ℕ) KeyEntry) (e : KeyEntry) → v.key ≡ key
    → IsEntry (log ++ v ∷ []) key e → Sets before after key e → Indexes before log → Indexes after (log ++ v ∷ [])
index_noted log v key before after e same own sets =
    index_set log (log ++ v ∷ []) key before after e own sets
    (λ q apart. entry_other log v q _ (ap (λ k. bytes_eq k q) same ∙ apart))

-- with a right entry
pub index_kept : (log : List Version) (key : List ℕ) (before after : BTreeMap (List ℕ) KeyEntry) (e : KeyEntry)
    → IsEntry log key e → Sets before after key e → Indexes before log → Indexes after log
index_kept log key before after e own sets = index_set log log key before after e own sets (λ q apart h. h)

pub is_some_from : (o : Option KeyEntry) (e : KeyEntry) → Some e ≡ o → IsSome o
is_some_from o e is = subst (λ (p : Option KeyEntry). IsSome p) is refl
