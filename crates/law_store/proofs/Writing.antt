-- A write changes what is read of its keys from its stamp on, and nothing else.
use Rattle.std.proofs.Common.{◌≡◌, ℕ, ◌≤◌, ◌<◌, ◌+◌, true, false, List, [], ◌∷◌, refl, sym, ap, subst, ◌∙◌, fold, arith, leb}
use Rattle.std.proofs.lemmas.Bool.{cond_both, true≢false}
use Rattle.std.proofs.lemmas.Bool.Decides.{nat_tests}
use Rattle.std.specs.Str.{bytes_eq}
use Rattle.row_values.specs.Rows.{absent_row}
use Rattle.row_values.specs.declared.value.Item.{Item}
use Rattle.row_values.specs.declared.rows.Row.{Row}
use Rattle.row_values.specs.Store.{Version, precedes, put_version, written, read_step, read_of, Below}
use Rattle.law_store.specs.Sorted.{Leads, Sorted, Behind, item_step}
use Rattle.law_store.proofs.Keys.{either_way, equal_keys, key_self, key_sym, precedes_back, precedes_apart, precedes_up}

behind_led : (vs : List Version) (key first : List ℕ) (stamp : ℕ) → precedes key first ≡ true → Leads first stamp vs → Behind key vs
behind_led [] key first stamp e h = tt
behind_led (v ∷ vs) key first stamp e h = (precedes_up key first v.key e h.0, behind_led vs key first stamp e h.2)

read_behind : (vs : List Version) (key : List ℕ) (x : ℕ) (row : Row) → Behind key vs → fold (read_step key x) row vs ≡ row
read_behind [] key x row h = refl
read_behind (v ∷ vs) key x row h = let apart : bytes_eq v.key key ≡ false = key_sym key v.key (precedes_apart key v.key h.0) in
    rw apart (read_behind vs key x row h.1)

leads_behind : (vs : List Version) (key : List ℕ) (stamp : ℕ) → Behind key vs → Leads key stamp vs
leads_behind [] key stamp h = tt
leads_behind (v ∷ vs) key stamp h = (
  precedes_back key v.key h.0,
  (λ same. let P : List ℕ → Type 0 = λ k. bytes_eq k v.key ≡ false in
      absurd (true≢false (sym (key_self v.key) ∙ subst P (sym same) (precedes_apart key v.key h.0)))),
  leads_behind vs key stamp h.1,
)

read_put_from : (vs : List Version) (v : Version) (key : List ℕ) (x : ℕ) (row : Row) → Sorted vs →
    fold (read_step key x) row (put_version v vs) ≡ read_step key x (fold (read_step key x) row vs) v
read_put_from [] v key x row h = refl
read_put_from (w ∷ ws) v key x row h = either_way (precedes v.key w.key)
    (λ e. rw e (either_way (bytes_eq v.key key)
    (λ mine. let P : List ℕ → Type 0 = λ k. Behind k (w ∷ ws) in
    let behind : Behind key (w ∷ ws) = subst P (equal_keys v.key key mine) (e, behind_led ws v.key w.key w.stamp e h.0) in
    read_behind (w ∷ ws) key x (read_step key x row v) behind ∙ ap (λ r. read_step key x r v) (sym (read_behind (w ∷ ws) key x row behind)))
    (λ other. rw other refl)))
    (λ e. rw e (read_put_from ws v key x (read_step key x row w) h.1))

-- one version more is one step more of the fold
pub read_put : (vs : List Version) (v : Version) (key : List ℕ) (x : ℕ) → Sorted vs → read_of (put_version v vs) key x ≡ read_step key x (read_of vs key x) v
read_put vs v key x h = read_put_from vs v key x absent_row h

leads_put : (vs : List Version) (v : Version) (key : List ℕ) (stamp : ℕ) → precedes v.key key ≡ false → (v.key ≡ key → stamp ≤ v.stamp) → Leads key stamp vs →
    Leads key stamp (put_version v vs)
leads_put [] v key stamp e later h = (e, later, tt)
leads_put (w ∷ ws) v key stamp e later h = cond_both (precedes v.key w.key) _ _ (Leads key stamp)
    (λ before. (e, later, h))
    (λ behind. (h.0, h.1, leads_put ws v key stamp e later h.2))

pub sorted_put : (vs : List Version) (v : Version) → Sorted vs → Below (v.stamp + 1) vs → Sorted (put_version v vs)
sorted_put [] v h below = (tt, tt)
sorted_put (w ∷ ws) v h below = cond_both (precedes v.key w.key) _ _ Sorted
    (λ before. (leads_behind (w ∷ ws) v.key v.stamp (before, behind_led ws v.key w.key w.stamp before h.0), h))
    (λ behind. (leads_put ws v w.key w.stamp behind (λ same. omega (arith, below.0)) h.0, sorted_put ws v h.1 below.1))

pub below_put : (vs : List Version) (v : Version) (n : ℕ) → v.stamp < n → Below n vs → Below n (put_version v vs)
below_put [] v n l h = (l, tt)
below_put (w ∷ ws) v n l h = cond_both (precedes v.key w.key) _ _ (Below n)
    (λ before. (l, h))
    (λ behind. (h.0, below_put ws v n l h.1))

pub below_weaker : (vs : List Version) (m n : ℕ) → m ≤ n → Below m vs → Below n vs
below_weaker [] m n l h = tt
below_weaker (v ∷ vs) m n l h = (omega (arith, h.0), below_weaker vs m n l h.1)

pub below_written : (items : List Item) (vs : List Version) (n m : ℕ) → n < m → Below m vs → Below m (written vs n items)
below_written [] vs n m l h = h
below_written (item ∷ items) vs n m l h = below_written items (put_version _ vs) n m l (below_put vs _ m l h)

pub sorted_written : (items : List Item) (vs : List Version) (n : ℕ) → Sorted vs → Below (n + 1) vs → Sorted (written vs n items)
sorted_written [] vs n h below = h
sorted_written (item ∷ items) vs n h below = sorted_written items (put_version _ vs) n (sorted_put vs _ h below) (below_put vs _ (n + 1) (omega arith) below)

-- before its stamp a write is not read
pub read_written_before : (items : List Item) (vs : List Version) (n : ℕ) (key : List ℕ) (x : ℕ) → Sorted vs → Below (n + 1) vs → x < n → read_of (written vs n items) key x ≡ read_of vs key x
read_written_before [] vs n key x h below l = refl
read_written_before (item ∷ items) vs n key x h below l =
    let v : Version = record { key = item.key; stamp = n; op = item.op } in
    let late : leb n x ≡ false = grind (arith, nat_tests) in
    let one : read_step key x (read_of vs key x) v ≡ read_of vs key x = grind (arith, nat_tests) in
    read_written_before items (put_version v vs) n key x (sorted_put vs v h below) (below_put vs v (n + 1) (omega arith) below) l ∙ read_put vs v key x h ∙ one

-- from its stamp on a write is read as its items of the key, one after the other
pub read_written : (items : List Item) (vs : List Version) (n : ℕ) (key : List ℕ) (x : ℕ) → Sorted vs → Below (n + 1) vs → n ≤ x →
    read_of (written vs n items) key x ≡ fold (item_step key) (read_of vs key x) items
read_written [] vs n key x h below l = refl
read_written (item ∷ items) vs n key x h below l =
    let v : Version = record { key = item.key; stamp = n; op = item.op } in
    let soon : leb n x ≡ true = grind (arith, nat_tests) in
    let one : read_step key x (read_of vs key x) v ≡ item_step key (read_of vs key x) item = grind (arith, nat_tests) in
    read_written items (put_version v vs) n key x (sorted_put vs v h below) (below_put vs v (n + 1) (omega arith) below) l
    ∙ ap (λ row. fold (item_step key) row items) (read_put vs v key x h ∙ one)
