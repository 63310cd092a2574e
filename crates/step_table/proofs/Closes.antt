-- How a table begins, and what it leaves.
use Rattle.std.proofs.Common.{◌≡◌, ℕ, zero, suc, ◌<◌, ◌≢◌, List, [], ◌∷◌, ◌++◌, map, refl, sym, ap, subst, arith, length, slice_index, ⊎_elim, ◌∙◌, inl, replicate}
use Rattle.std.proofs.lemmas.List.{length-map, length-replicate, get_or-replicate}
use Rattle.std.specs.Prelude.{Option, Some, cond, nat_eq}
use mathlib.Core.Option.{some, none, some-ne-none, some-injective}
use mathlib.Core.Option as maybe
use mathlib.Core.List.{IsPrefix}
use lib.ListN.{get_elem?}
use Rattle.atomic_table.specs.Table.{State, opening, Seen, Final}
use Rattle.atomic_table.specs.Seated.{TableId}
use Rattle.atomic_table.proofs.Lists.{at_map}
use Rattle.step_table.specs.declared.known.Entry.{Entry}
use Rattle.step_table.specs.declared.known.Known.{Known}
use Rattle.step_table.specs.Lists.{total}
use Rattle.step_table.specs.Machines.{Core, Lawful, leaves, logged, IsRight}
use Rattle.step_table.specs.Histories.{history_of, IsNumbered}
use Rattle.step_table.specs.Passes.{PassView, told}
use Rattle.step_table.specs.Rule.{times, Sound, Stands, IsAt, spent, opener}
use Rattle.step_table.proofs.Histories.{history_leaves, whole_numbered}
use Rattle.step_table.proofs.Lists.{every_map, in_prefix, prefix_behind}
use Rattle.step_table.proofs.Totals.{total_two}
use Rattle.step_table.proofs.Puts.{found_at}
use Rattle.step_table.proofs.Keeps.{in_some}
use Rattle.step_table.proofs.Merges.{counted, same_list}

-- only one of them counts
pub total_alone : {A : Type 0} (f : A → ℕ) (xs : List A) (i : ℕ) (v : A) → get_elem? xs i ≡ some v → ((j : ℕ) (w : A) → get_elem? xs j ≡ some w → j ≢ i → f w ≡ 0) → total f xs ≡ f v
total_alone f [] i v at others = absurd (some-ne-none v (sym at))
total_alone f (x ∷ xs) zero v at others = let e : f x ≡ f v = ap f (some-injective x v at) in let z = total_none f xs (λ j w there. others (suc j) w there (λ q. omega arith)) in omega arith
  where
    total_none : {A : Type 0} (f : A → ℕ) (xs : List A) → ((j : ℕ) (w : A) → get_elem? xs j ≡ some w → f w ≡ 0) → total f xs ≡ 0
    total_none f [] others = refl
    total_none f (x ∷ xs) others = let a = others 0 x refl in let b = total_none f xs (λ j w there. others (suc j) w there) in omega arith
total_alone f (x ∷ xs) (suc i) v at others = let a = others 0 x refl (λ q. omega arith) in let b = total_alone f xs i v at (λ j w there ne. others (suc j) w there (λ q. ne (omega arith))) in omega arith

module _ {P E D R F : Type 0} (c : Core P E D R F) where
  pub opens : (parts : List P) (count : ℕ) → c.Legal (map c.meaning parts) → IsNumbered 1 (history_of c (map c.meaning parts)) → count ≡ logged c (map c.meaning parts)
      → Stands c (map c.meaning parts) (opening (count ∷ replicate (length parts) 0) (map Some parts) (opener (map c.meaning parts)))
  opens parts count legal begun is = record {
    start = legal;
    begun = begun;
    since = [];
    right = tt;
    legal = legal;
    past = tt;
    up = tt;
    wide = let l : length (replicate {A = ℕ} (length parts) 0) ≡ length parts = length-replicate (length parts) 0 in let m = length-map parts c.meaning in omega arith;
    deep = length-map (map Some parts) maybe.some ∙ (length-map parts Some ∙ sym (length-map parts c.meaning));
    same = refl;
    order = is;
    locks = λ k lt. sym (get_or-replicate (length parts) k 0 0 (let m = length-map parts c.meaning in omega arith));
    places = λ k lt. let p = found_at parts k (let m = length-map parts c.meaning in omega arith) in
        inl (get_or-replicate (length parts) k 0 0 (let m = length-map parts c.meaning in omega arith), p.0, at_map maybe.some (map Some parts) k (Some p.0) (at_map Some parts k p.0 p.1), at_map c.meaning parts k p.0 p.1);
    each = λ id v here. first_is id v here;
    shares = refl;
    mine = λ h. refl;
  }
    where
      first_is : (id : ℕ) (v : Known P E R) → get_elem? (opener (map c.meaning parts) ∷ []) id ≡ some v → Sound c (map c.meaning parts) [] v
      first_is zero v here = subst (Sound c (map c.meaning parts) []) (some-injective (opener (map c.meaning parts)) v here) (record {
        given_is = λ n. refl;
        seen_in = ([], refl);
        olds_in = tt;
        mine_in = tt;
        mine_rise = tt;
        shows = tt;
        spent_is = λ z. absurd (omega arith);
      })
      first_is (suc id) v here = absurd (some-ne-none v (sym here))

  others_spent : (given : List P) (s : State (Option P) (Known P E R)) (id : ℕ) (v : Known P E R) → (h : Stands c given s) → get_elem? s.views id ≡ some v → v.shares ≡ 4096
      → (j : ℕ) (w : Known P E R) → get_elem? s.views j ≡ some w → j ≢ id → w ≡ spent
  others_spent given s id v h at whole j w there apart =
      let two = total_two (λ (u : Known P E R). u.shares) s.views id j v w (λ z. apart (sym z)) at there in
      let all = h.shares in
      (h.each j w there).spent_is (omega arith)

  -- the parts that came home, and the history that left them
  pub record Left (given : List P) (v : Known P E R) (es : List (Entry E R)) (xs : List (Option P)) : Type 0 where
    pub start : c.Legal given
    pub begun : IsNumbered 1 (history_of c given)
    pub given_is : v.given ≡ given
    pub right : IsRight c given es
    pub legal : c.Legal (leaves c given es)
    pub seen : IsPrefix v.seen es
    pub count : length xs ≡ length (leaves c given es)
    pub parts : (k : ℕ) → k < length xs → (p : P) × (get_elem? xs k ≡ maybe.some (Some p)) × (get_elem? (leaves c given es) k ≡ maybe.some (c.meaning p))

  pub closes : (given : List P) (id : ℕ) (v : Known P E R) (ws : List ℕ) (xs : List (Option P)) → v.shares ≡ 4096 → v.held ≡ [] → Final (Seen (Stands c given) id v) ws xs → Left given v v.mine xs
  closes given id v ws xs whole empty (s, seen, words, len, values) =
      let h = seen.0 in
      let at = seen.1 in
      let f = h.each id v at in
      let others = others_spent given s id v h at whole in
      let count : (n : ℕ) → counted n v.mine ≡ counted n h.since = λ n.
      let z = h.mine (λ (x : Entry E R). cond {A = ℕ} (nat_eq n x.number) 1 0) in
      sym (total_alone (λ (u : Known P E R). counted n u.mine) s.views id v at (λ j w there ne. ap (λ (u : Known P E R). counted n u.mine) (others j w there ne))) ∙ z in
      let free : (k : ℕ) → k < length given → slice_index s.words (suc k) ≡ 0 = λ k lt.
      sym (h.locks k lt) ∙ (total_alone (λ (u : Known P E R). times k u.held) s.views id v at (λ j w there ne. ap (λ (u : Known P E R). times k u.held) (others j w there ne)) ∙ ap (times k) empty) in
      let all : v.mine ≡ h.since = same_list v.mine h.since f.mine_rise h.up (every_map (IsAt v.seen) (IsAt h.since) (λ e. in_prefix e v.seen h.since f.seen_in) v.mine f.mine_in) count in
      let deep = h.deep in
      let same = h.same in
      subst (λ es. Left given v es xs) (sym all) (record {
        start = h.start;
        begun = h.begun;
        given_is = f.given_is (λ z. absurd (omega arith));
        right = h.right;
        legal = h.legal;
        seen = f.seen_in;
        count = omega arith;
        parts = λ k lt. ⊎_elim (λ (t : _). (t.1, values k (Some t.1) t.2, t.3)) (λ (t : _). absurd (let o = t.0 in let z = free k (omega arith) in omega arith)) (h.places k (omega arith));
      })

  -- parts that are found in their places mean what is there
  pub meant_there : (parts left : List P) → length (map Some parts) ≡ length left → ((k : ℕ) → k < length (map Some parts) → (p : P) × (get_elem? (map Some parts) k ≡ maybe.some (Some p)) × (get_elem? left k ≡ maybe.some (c.meaning p))) → map c.meaning parts ≡ left
  meant_there [] [] len at = refl
  meant_there [] (y ∷ ys) len at = absurd (omega arith)
  meant_there (x ∷ xs) [] len at = absurd (omega arith)
  meant_there (x ∷ xs) (y ∷ ys) len at =
      let first = at 0 (omega arith) in
      let same : x ≡ first.0 = ap (in_some x) (some-injective (Some x) (Some first.0) first.1) in
      let head : c.meaning x ≡ y = ap c.meaning same ∙ sym (some-injective y (c.meaning first.0) first.2) in
      ap (λ z. z ∷ map c.meaning xs) head ∙ ap (λ zs. y ∷ zs) (meant_there xs ys (omega arith) (λ k lt. at (suc k) (omega arith)))

  -- what `close` says of a pass and of the parts that come home
  pub record Closed (given : List P) (v : PassView P E R) (parts : List P) : Type 0 where
    pub same_given : v.given ≡ given
    pub every_entry_once : history_of c parts ≡ history_of c given ++ v.made
    pub numbered : IsNumbered 1 (history_of c parts)
    pub right : IsRight c given v.made
    pub left : parts ≡ leaves c given v.made
    pub legal : c.Legal parts
    pub seen : IsPrefix v.seen (history_of c parts)

  pub closed : (laws : Lawful c) (given : List P) (id : TableId) (v : Known P E R) (xs : List (Option P)) (room : List P) → Left given v v.mine xs → map Some room ≡ xs → Closed given (told c id v) (map c.meaning room)
  closed laws given id v xs room l is =
      let left : map c.meaning room ≡ leaves c given v.mine = meant_there room (leaves c given v.mine) (ap length is ∙ l.count) (λ k lt. let at = l.parts k (subst (λ ys. k < length ys) is lt) in (at.0, ap (λ ys. get_elem? ys k) is ∙ at.1, at.2)) in
      let once : history_of c (map c.meaning room) ≡ history_of c given ++ v.mine = ap (history_of c) left ∙ history_leaves c laws given v.mine l.start l.begun l.right in record {
        same_given = l.given_is;
        every_entry_once = once;
        numbered = subst (IsNumbered 1) (sym once) (whole_numbered c laws given v.mine l.start l.begun l.right);
        right = l.right;
        left = left;
        legal = subst c.Legal (sym left) l.legal;
        seen = subst (λ g. IsPrefix (history_of c g ++ v.seen) (history_of c (map c.meaning room))) (sym l.given_is)
            (subst (IsPrefix (history_of c given ++ v.seen)) (sym once) (prefix_behind (history_of c given) v.seen v.mine l.seen));
      }
