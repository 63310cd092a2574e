-- A read over several places gives, of each key, the rows of its places in their order.
use Rattle.std.proofs.Common.{◌≡◌, ℕ, Bool, true, cond, List, [], ◌∷◌, ◌++◌, Option, Some, None, inl, inr, refl, ap, ◌∙◌}
use Rattle.std.proofs.lemmas.List.{map-append}
use Rattle.std.specs.Str.{bytes_eq}
use Rattle.row_values.specs.Rows.{cut_to}
use Rattle.row_values.specs.Codes.{code_of}
use Rattle.row_values.specs.declared.rows.KeyedRow.{KeyedRow}
use Rattle.row_values.specs.Store.{Version, read_of, present, of_key}
use Rattle.row_values.specs.Ranges.{in_range}
use Rattle.row_values.specs.Elements.{In, in_order}
use Rattle.model.specs.Acts.{At}
use Rattle.model.specs.Journal.{Change, row_at}
use Rattle.model.specs.Tablets.{Tablet}
use Rattle.model.specs.RowActs.{rows_asked, rows_in, rows_of_places, cut_rows}
use Rattle.model.specs.Right.{RowsRight, is_asked, row_wanted, rows_wanted}
use Rattle.law_store.proofs.Keys.{either_way, equal_keys}
use Rattle.law_store.proofs.Merging.{by_key, ordered, of_key_ordered, of_key_append, of_key_chosen, in_order_mapped, of_key_mapped, of_key_present, cut_present}
use Rattle.law_store.proofs.Listing.{of_key_rows_at}

-- the places' tablets read at x as the view does, of the keys in their ranges
abbrev pub ReadsView : List Change → ℕ → (ℕ → Tablet) → List At → Type 0
ReadsView changes x tablets places = (place : At) (key : List ℕ) → In place places
    → in_range (tablets place.slot).low (tablets place.slot).high (code_of key) ≡ true
    → read_of (tablets place.slot).versions key x ≡ row_at changes x (tablets place.slot).table key

-- what is read of the rows that are asked of a store
of_key_asked : (asked : Option (List ℕ)) (vs : List Version) (x : ℕ) (key : List ℕ) → of_key key (rows_asked asked vs x) ≡ cond (is_asked asked key) (present key (read_of vs key x)) []
of_key_asked None vs x key = of_key_rows_at vs x key
of_key_asked (Some one) vs x key = of_key_present (read_of vs one x) one key ∙ either_way (bytes_eq one key)
    (λ same. rw same (ap (λ k. present key (read_of vs k x)) (equal_keys one key same)))
    (λ other. rw other refl)

of_key_place : (t : Tablet) (changes : List Change) (asked : Option (List ℕ)) (x : ℕ) (columns key : List ℕ) →
    (in_range t.low t.high (code_of key) ≡ true → read_of t.versions key x ≡ row_at changes x t.table key) →
    cut_rows columns (of_key key (rows_in t asked x)) ≡ row_wanted changes x asked columns t key
of_key_place t changes asked x columns key reads =
    let inside : List ℕ → Bool = λ k. in_range t.low t.high (code_of k) in
    let rows : of_key key (rows_in t asked x) ≡ cond (inside key) (cond (is_asked asked key) (present key (read_of t.versions key x)) []) []
    = of_key_chosen (rows_asked asked t.versions x) inside key ∙ ap (λ rs. cond (inside key) rs []) (of_key_asked asked t.versions x key) in
    ap (cut_rows columns) rows ∙ either_way (is_asked asked key)
    (λ yes_. either_way (inside key)
    (λ here. rw (yes_, here) (cut_present columns key (read_of t.versions key x) ∙ ap (λ row. present key (cut_to row columns)) (reads here)))
    (λ away. rw (yes_, away) refl))
    (λ no_. either_way (inside key) (λ here. rw (no_, here) refl) (λ away. rw (no_, away) refl))

of_key_places : (places : List At) (tablets : ℕ → Tablet) (changes : List Change) (asked : Option (List ℕ)) (x : ℕ) (columns key : List ℕ) → ReadsView changes x tablets places →
    cut_rows columns (of_key key (rows_of_places places asked x tablets)) ≡ rows_wanted changes x asked columns tablets places key
of_key_places [] tablets changes asked x columns key reads = refl
of_key_places (p ∷ places) tablets changes asked x columns key reads =
    let first = of_key_place (tablets p.slot) changes asked x columns key (reads p key (inl refl)) in
    let rest = of_key_places places tablets changes asked x columns key (λ q k isin. reads q k (inr isin)) in
    ap (cut_rows columns) (of_key_append (rows_in (tablets p.slot) asked x) (rows_of_places places asked x tablets) key)
    ∙ map-append {A = KeyedRow} (λ r. record r { row = cut_to r.row columns }) (of_key key (rows_in (tablets p.slot) asked x)) (of_key key (rows_of_places places asked x tablets))
    ∙ ap (λ rs. rs ++ cut_rows columns (of_key key (rows_of_places places asked x tablets))) first
    ∙ ap (λ rs. row_wanted changes x asked columns (tablets p.slot) key ++ rs) rest

-- a read of places that read as the view does is right
pub read_right : (places : List At) (tablets : ℕ → Tablet) (changes : List Change) (asked : Option (List ℕ)) (x : ℕ) (columns : List ℕ) → ReadsView changes x tablets places →
    RowsRight changes x asked columns tablets places (cut_rows columns (in_order by_key (rows_of_places places asked x tablets)))
read_right places tablets changes asked x columns reads = record {
  in_order = in_order_mapped _ (λ r. record r { row = cut_to r.row columns }) (λ r. refl) (ordered (rows_of_places places asked x tablets));
  each = λ key. of_key_mapped _ (λ r. record r { row = cut_to r.row columns }) key (λ r. refl) ∙ ap (cut_rows columns) (of_key_ordered (rows_of_places places asked x tablets) key)
      ∙ of_key_places places tablets changes asked x columns key reads;
}
