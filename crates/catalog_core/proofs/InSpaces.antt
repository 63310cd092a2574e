-- The records of one namespace's tables: those that held at a time, what is left where the current ones end, and their count.
use Rattle.std.proofs.Common.{ℕ, ◌≡◌, Bool, true, false, ◌&&◌, ◌||◌, cond, List, [], ◌∷◌, map, Option, Some, None, is_some, if◌then◌else◌, length, refl, sym, ap, ◌∙◌, arith}
use Rattle.std.specs.Cmp.{IsEquivalence}
use Rattle.std.specs.List.{list_any}
use Rattle.std.specs.Option.{option_or}
use Rattle.row_values.specs.Ids.{Id, same}
use Rattle.model.specs.Times.{is_open, ended, holds_at}
use Rattle.model.specs.Catalog.{TableRecord, put_table, tables_at, end_tables, current_tables}
use Rattle.newest_index.specs.Newest.{last_place, InTurn}
use Rattle.newest_index.specs.Gathered.{gathered, changed_where}
use Rattle.newest_index.proofs.Opens.{last_place-same, keys_kept}
use Rattle.newest_index.proofs.Turns.{next_of, last_place-cons, last_place-map, in_turn-map}
use Rattle.catalog_core.specs.Codes.{table_code}
use Rattle.catalog_core.specs.Kept.{table_id, table_space, same_table_name, same_table_id, table_over, table_closed, stands_in, put_standing}
use Rattle.catalog_core.proofs.Names.{both_false}
use Rattle.catalog_core.proofs.Found.{still_over}
use Rattle.catalog_core.proofs.Stood.{put_by}

-- a list of which some pass has a last place of them
any_by : (b : Bool) (o : Option ℕ) → is_some (option_or (next_of o) (if b then Some 0 else None)) ≡ (b || is_some o)
any_by true None = refl
any_by true (Some p) = refl
any_by false None = refl
any_by false (Some p) = refl

pub any_last : {A : Type 0} (t : A → Bool) (xs : List A) → is_some (last_place t xs) ≡ list_any t xs
any_last t [] = refl
any_last t (x ∷ xs) =
    ap is_some (last_place-cons t x xs) ∙ any_by (t x) (last_place t xs) ∙ ap (λ b. t x || b) (any_last t xs)

passed : (ns : Id) (x : ℕ) (r : TableRecord) (found : List TableRecord) → stands_in ns x r ≡ false → put_standing ns x r found ≡ found
passed ns x r found e = ap (λ c. if c then put_table r found else found) e

put_by_space : (ns : Id) (x : ℕ) (r : TableRecord) (found : List TableRecord) (a b : Bool) → a ≡ b → same r.namespace ns ≡ b
    → (if a then put_standing ns x r found else found) ≡ put_standing ns x r found
put_by_space ns x r found true b e s = refl
put_by_space ns x r found false b e s = sym (passed ns x r found (both_false (holds_at x r.from r.to) (same r.namespace ns) (s ∙ sym e)))

close_by : (at : ℕ) (r : TableRecord) (a b : Bool) → a ≡ b → (if a then table_closed at r else r) ≡ record r { to = if b then ended at r.to else r.to }
close_by at r true true e = refl
close_by at r false false e = refl
close_by at r true false e = absurd (cc)
close_by at r false true e = absurd (cc)

cons_both : {A : Type 0} {x y : A} {xs ys : List A} → x ≡ y → xs ≡ ys → x ∷ xs ≡ y ∷ ys
cons_both e d = cc

module _ (eq : Id → Id → Bool) (laws : IsEquivalence eq) (agree : (a b : Id) → eq a b ≡ same a b) where
  space_test : (ns k : Id) → eq ns k ≡ same k ns
  space_test ns k = laws.symm ns k ∙ agree k ns

  pub any_here : (rs : List TableRecord) (ns : Id) → is_some (last_place (eq ns) (map table_space rs)) ≡ list_any (λ (r : TableRecord). same r.namespace ns) rs
  any_here rs ns =
      ap is_some (last_place-map table_space (eq ns) rs
      ∙ last_place-same (λ (r : TableRecord). eq ns r.namespace) (λ (r : TableRecord). same r.namespace ns) (λ r. space_test ns r.namespace) rs)
      ∙ any_last (λ (r : TableRecord). same r.namespace ns) rs

  -- what is put together of the records of the namespace are its tables at the time
  pub gathered_standing : (ns : Id) (x : ℕ) (rs : List TableRecord)
      → gathered (λ (r : TableRecord). eq ns (table_space r)) (put_standing ns x) [] rs ≡ tables_at rs ns x
  gathered_standing ns x [] = refl
  gathered_standing ns x (r ∷ rs) =
      put_by_space ns x r (gathered (λ (r : TableRecord). eq ns (table_space r)) (put_standing ns x) [] rs) (eq ns r.namespace) (same r.namespace ns)
      (space_test ns r.namespace) refl
      ∙ ap (put_standing ns x r) (gathered_standing ns x rs)
      ∙ sym (put_by ns x r rs (stands_in ns x r) refl)

  pub closes_in : (rs : List TableRecord) (ns : Id) (at : ℕ)
      → changed_where (λ (r : TableRecord). eq ns (table_space r)) (table_closed at) rs ≡ end_tables ns at rs
  closes_in [] ns at = refl
  closes_in (r ∷ rs) ns at = cons_both (close_by at r (eq ns r.namespace) (same r.namespace ns) (space_test ns r.namespace)) (closes_in rs ns at)

-- What is left where the current ones end

abbrev pub closes : Id → ℕ → TableRecord → TableRecord
closes ns at r = record r { to = if same r.namespace ns then ended at r.to else r.to }

pub closed_codes : (rs : List TableRecord) (ns : Id) (at : ℕ) → map table_code (end_tables ns at rs) ≡ map table_code rs
closed_codes rs ns at = keys_kept table_code (closes ns at) rs (λ r. refl)

pub closed_ids : (rs : List TableRecord) (ns : Id) (at : ℕ) → map table_id (end_tables ns at rs) ≡ map table_id rs
closed_ids rs ns at = keys_kept table_id (closes ns at) rs (λ r. refl)

pub closed_spaces : (rs : List TableRecord) (ns : Id) (at : ℕ) → map table_space (end_tables ns at rs) ≡ map table_space rs
closed_spaces rs ns at = keys_kept table_space (closes ns at) rs (λ r. refl)

pub closed_names : (rs : List TableRecord) (ns : Id) (at : ℕ) → InTurn same_table_name table_over rs → InTurn same_table_name table_over (end_tables ns at rs)
closed_names rs ns at turn =
    in_turn-map same_table_name table_over (closes ns at) rs (λ r s like. like) (λ r s over. still_over (same r.namespace ns) r.to s.from at over) turn

pub closed_by_id : (rs : List TableRecord) (ns : Id) (at : ℕ) → InTurn same_table_id table_over rs → InTurn same_table_id table_over (end_tables ns at rs)
closed_by_id rs ns at turn =
    in_turn-map same_table_id table_over (closes ns at) rs (λ r s like. like) (λ r s over. still_over (same r.namespace ns) r.to s.from at over) turn

pub gone_by : (o : Option ℕ) (m n : Bool) (at : ℕ) → (n ≡ true → m ≡ true) → (is_open (if m then ended at o else o) && n) ≡ false
gone_by None true n at i = refl
gone_by (Some t) true n at i = refl
gone_by o false true at i = let q : false ≡ true = i refl in absurd (cc)
gone_by o false false at i = both_false (is_open o) false refl

same_by : (o : Option ℕ) (m n : Bool) (at : ℕ) → (m ≡ true → n ≡ false) → (is_open (if m then ended at o else o) && n) ≡ (is_open o && n)
same_by o false n at i = refl
same_by o true true at i = let q : true ≡ false = i refl in absurd (cc)
same_by o true false at i = both_false (is_open (ended at o)) false refl ∙ sym (both_false (is_open o) false refl)

count_by : (c d : Bool) (r s : TableRecord) (rs ss : List TableRecord) → c ≡ d → length rs ≡ length ss → length (cond c (r ∷ rs) rs) ≡ length (cond d (s ∷ ss) ss)
count_by true true r s rs ss e h = omega (arith, h)
count_by false false r s rs ss e h = h
count_by true false r s rs ss e h = absurd (cc)
count_by false true r s rs ss e h = absurd (cc)

-- none of the namespace is current, and of another as many as before
pub count_closed : ((a b : Id) → same a b ≡ true → a ≡ b) → (rs : List TableRecord) (ns q : Id) (at : ℕ) (b : Bool) → same ns q ≡ b
    → length (current_tables (end_tables ns at rs) q) ≡ (if b then 0 else length (current_tables rs q))
count_closed equal [] ns q at true e = refl
count_closed equal [] ns q at false e = refl
count_closed equal (r ∷ rs) ns q at true e =
    ap (λ c. length (cond c (closes ns at r ∷ current_tables (end_tables ns at rs) q) (current_tables (end_tables ns at rs) q)))
    (gone_by r.to (same r.namespace ns) (same r.namespace q) at (λ n. ap (same r.namespace) (equal ns q e) ∙ n))
    ∙ count_closed equal rs ns q at true e
count_closed equal (r ∷ rs) ns q at false e =
    count_by (is_open (if same r.namespace ns then ended at r.to else r.to) && same r.namespace q) (is_open r.to && same r.namespace q) (closes ns at r) r
    (current_tables (end_tables ns at rs) q) (current_tables rs q)
    (same_by r.to (same r.namespace ns) (same r.namespace q) at (λ m. ap (λ k. same k q) (equal r.namespace ns m) ∙ e))
    (count_closed equal rs ns q at false e)
