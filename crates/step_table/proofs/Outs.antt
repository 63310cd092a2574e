-- What a seat has while it takes its slots and gives them back.
use Rattle.std.proofs.Common.{◌≡◌, ℕ, zero, suc, ◌+◌, ◌<◌, List, [], ◌∷◌, ◌++◌, map, refl, sym, ap, subst, arith, length, ◌∙◌, inl, inr, take, ne_eqb, add-one, slice_index}
use Rattle.std.proofs.lemmas.List.{map-append}
use Rattle.std.specs.Prelude.{Option, None, cond, nat_eq}
use Rattle.atomic_table.specs.Table.{rest}
use Rattle.step_table.specs.declared.known.Known.{Known}
use Rattle.step_table.specs.Lists.{fst, snd, total, Every, In, Rising, Above, pair}
use Rattle.step_table.specs.Helds.{slots_of, parts_of}
use Rattle.step_table.specs.Machines.{Core}
use Rattle.step_table.specs.Rule.{times}
use Rattle.step_table.specs.Plays.{Sat, holding, finding, released, but_last}
use Rattle.step_table.specs.Seats.{IsAlike, IsStill, HasTaken, IsBack, HasOut, IsOut, meant, backwards}
use Rattle.step_table.proofs.Lists.{but_last_snoc, prefix_self, prefix_then}
use Rattle.step_table.proofs.Keeps.{first_and_rest}
use Rattle.step_table.proofs.Puts.{times_fst}

above_none : (x : ℕ) (ks : List ℕ) (k : ℕ) → Above x (ks ++ k ∷ []) → (x < k) × (total (λ y. cond {A = ℕ} (nat_eq k y) 1 0) ks ≡ 0)
above_none x [] k up = (up.0, refl)
above_none x (y ∷ ys) k up =
    let r = above_none y ys k up.1 in let u = up.0 in let a = r.0 in let z = r.1 in
    let t : cond {A = ℕ} (nat_eq k y) 1 0 ≡ 0 = ap (λ b. cond {A = ℕ} b 1 0) (ne_eqb k y (λ e. omega arith)) in (omega arith, omega arith)

none_of : (ks : List ℕ) (k : ℕ) → Rising (ks ++ k ∷ []) → total (λ y. cond {A = ℕ} (nat_eq k y) 1 0) ks ≡ 0
none_of [] k up = refl
none_of (y ∷ ys) k up =
    let r = above_none y ys k up in let a = r.0 in let z = r.1 in
    let t : cond {A = ℕ} (nat_eq k y) 1 0 ≡ 0 = ap (λ b. cond {A = ℕ} b 1 0) (ne_eqb k y (λ e. omega arith)) in omega arith

-- the list up to and with the next item
pub take_next : (ks : List ℕ) (i k : ℕ) → i < length ks → k ≡ slice_index ks i → take (i + 1) ks ≡ take i ks ++ k ∷ []
take_next ks i k lt is = rw add-one (go ks i k lt is)
  where
    go : (ks : List ℕ) (i k : ℕ) → i < length ks → k ≡ slice_index ks i → take (suc i) ks ≡ take i ks ++ k ∷ []
    go [] i k lt is = absurd (omega arith)
    go (x ∷ xs) zero k lt is = ap (λ y. y ∷ []) (sym is)
    go (x ∷ xs) (suc i) k lt is = ap (λ ys. x ∷ ys) (go xs i k (omega arith) is)

above_take : (x : ℕ) (ks : List ℕ) (i : ℕ) → Above x ks → Above x (take i ks)
above_take x [] zero up = tt
above_take x [] (suc i) up = tt
above_take x (y ∷ ys) zero up = tt
above_take x (y ∷ ys) (suc i) up = (up.0, above_take y ys i up.1)

pub rising_take : (ks : List ℕ) (i : ℕ) → Rising ks → Rising (take i ks)
rising_take [] zero up = tt
rising_take [] (suc i) up = tt
rising_take (y ∷ ys) zero up = tt
rising_take (y ∷ ys) (suc i) up = above_take y ys i up

pub every_at : (F : ℕ → Type 0) (ks : List ℕ) (i : ℕ) → i < length ks → Every F ks → F (slice_index ks i)
every_at F [] i lt all = absurd (omega arith)
every_at F (x ∷ xs) zero lt all = all.0
every_at F (x ∷ xs) (suc i) lt all = every_at F xs i (omega arith) all.1

-- an item that is found by its place stands in the list
pub in_at : (ks : List ℕ) (i : ℕ) → i < length ks → In (slice_index ks i) ks
in_at [] i lt = absurd (omega arith)
in_at (x ∷ xs) zero lt = inl refl
in_at (x ∷ xs) (suc i) lt = inr (in_at xs i (omega arith))

pub every_take : (F : ℕ → Type 0) (ks : List ℕ) (i : ℕ) → Every F ks → Every F (take i ks)
every_take F [] zero all = tt
every_take F [] (suc i) all = tt
every_take F (x ∷ xs) zero all = tt
every_take F (x ∷ xs) (suc i) all = (all.0, every_take F xs i all.1)

module _ {P : Type 0} where
  pub backwards_snoc : (ks : List ℕ) (k : ℕ) (tail : List (ℕ × Option P)) → backwards (ks ++ k ∷ []) tail ≡ (k, None) ∷ backwards ks tail
  backwards_snoc [] k tail = refl
  backwards_snoc (j ∷ ks) k tail = backwards_snoc ks k ((j, None) ∷ tail)

module _ {P E R : Type 0} where
  pub alike_refl : (v : Known P E R) → IsAlike v v
  alike_refl v = record { given = refl; seen = refl; mine = refl; olds = refl; shares = refl; splits = refl }

  pub alike_then : (u v w : Known P E R) → IsAlike u v → IsAlike v w → IsAlike u w
  alike_then u v w a b = record { given = b.given ∙ a.given; seen = b.seen ∙ a.seen; mine = b.mine ∙ a.mine; olds = b.olds ∙ a.olds; shares = b.shares ∙ a.shares; splits = b.splits ∙ a.splits }

  pub still_refl : (m : Sat P E R) → IsStill m m
  still_refl m = record { alike = alike_refl m.0; doing = refl; held = refl; carried = refl; findings = prefix_self m.0.findings }

  -- a lock was found taken once more
  pub still_finds : (a m m' : Sat P E R) (k : ℕ) → IsStill a m → m' ≡ (finding m.0 k, m.1) → IsStill a m'
  still_finds a m m' k s e = subst (IsStill a) (sym e) (record {
    alike = alike_then a.0 m.0 (finding m.0 k) s.alike (record { given = refl; seen = refl; mine = refl; olds = refl; shares = refl; splits = refl });
    doing = s.doing;
    held = s.held;
    carried = s.carried;
    findings = prefix_then a.0.findings m.0.findings (m.0.findings ++ k ∷ []) s.findings (k ∷ [], refl);
  })

  pub still_takes : (event : Option E) (a m m' : Sat P E R) (k : ℕ) (q : P) → IsStill a m → m' ≡ (holding m.0 event k q, (k, None) ∷ m.1) → HasTaken event k q a m'
  still_takes event a m m' k q s e = subst (HasTaken event k q a) (sym e) (record {
    alike = alike_then a.0 m.0 (holding m.0 event k q) s.alike (record { given = refl; seen = refl; mine = refl; olds = refl; shares = refl; splits = refl });
    doing = refl;
    held = ap (λ xs. xs ++ (k, q) ∷ []) s.held;
    carried = ap (λ xs. (k, None) ∷ xs) s.carried;
    findings = s.findings;
  })

  pub back_refl : (m : Sat P E R) → IsBack m m
  back_refl m = record { alike = alike_refl m.0; findings = refl }

  pub back_then : (l m n : Sat P E R) → IsBack l m → IsBack m n → IsBack l n
  back_then l m n a b = record { alike = alike_then l.0 m.0 n.0 a.alike b.alike; findings = b.findings ∙ a.findings }

  pub back_less : (m m' : Sat P E R) → m' ≡ (released m.0, rest m.1) → IsBack m m'
  back_less m m' e = subst (IsBack m) (sym e) (record { alike = record { given = refl; seen = refl; mine = refl; olds = refl; shares = refl; splits = refl }; findings = refl })

module _ {P E D R F : Type 0} (c : Core P E D R F) where
  pub slots_meant : (held : List (ℕ × P)) → map fst (meant c held) ≡ slots_of held
  slots_meant [] = refl
  slots_meant (x ∷ xs) = ap (λ ks. x.0 ∷ ks) (slots_meant xs)

  pub parts_meant : (held : List (ℕ × P)) → map snd (meant c held) ≡ map c.meaning (parts_of held)
  parts_meant [] = refl
  parts_meant (x ∷ xs) = ap (λ ps. c.meaning x.1 ∷ ps) (parts_meant xs)

  pub paired_meant : (held : List (ℕ × P)) → meant c held ≡ pair (slots_of held) (map c.meaning (parts_of held))
  paired_meant [] = refl
  paired_meant (x ∷ xs) = ap (λ ys. (x.0, c.meaning x.1) ∷ ys) (paired_meant xs)

  pub out_next : (event : Option E) (m m' : Sat P E R) (held : List (ℕ × P)) (k : ℕ) (p : P) → IsOut c event m held → HasTaken event k (c.meaning p) m m' → IsOut c event m' (held ++ (k, p) ∷ [])
  out_next event m m' held k p is taken = record {
    busy = inr taken.doing;
    out = record {
      shown = taken.held ∙ (ap (λ xs. xs ++ (k, c.meaning p) ∷ []) is.out.shown ∙ sym (map-append (λ (x : ℕ × P). (x.0, c.meaning x.1)) held ((k, p) ∷ [])));
      carried = taken.carried ∙ (ap (λ xs. (k, None) ∷ xs) is.out.carried ∙ (sym (backwards_snoc (slots_of held) k []) ∙ ap (λ ks. backwards ks []) (sym (map-append fst held ((k, p) ∷ [])))));
    };
  }

  -- the slot that comes next is not held yet
  pub not_yet : (event : Option E) (m : Sat P E R) (held : List (ℕ × P)) (k : ℕ) → IsOut c event m held → Rising (slots_of held ++ k ∷ []) → times k m.0.held ≡ 0
  not_yet event m held k is up = ap (times k) is.out.shown ∙ (times_fst k (meant c held) ∙ (ap (total (λ x. cond {A = ℕ} (nat_eq k x) 1 0)) (slots_meant held) ∙ none_of (slots_of held) k up))

  pub out_last : (m : Sat P E R) (held : List (ℕ × P)) (k : ℕ) (p : P) → HasOut c m (held ++ (k, p) ∷ [])
      → (m.0.held ≡ but_last m.0.held ++ (k, c.meaning p) ∷ []) × (m.1 ≡ (k, None) ∷ rest m.1)
  out_last m held k p out =
      let shown : m.0.held ≡ meant c held ++ (k, c.meaning p) ∷ [] = out.shown ∙ map-append (λ (x : ℕ × P). (x.0, c.meaning x.1)) held ((k, p) ∷ []) in
      let init : but_last m.0.held ≡ meant c held = ap but_last shown ∙ but_last_snoc (meant c held) (k, c.meaning p) in
      (shown ∙ ap (λ xs. xs ++ (k, c.meaning p) ∷ []) (sym init), first_and_rest m.1 (backwards (slots_of held) []) (k, None) (out.carried ∙ (ap (λ ks. backwards ks []) (map-append fst held ((k, p) ∷ [])) ∙ backwards_snoc (slots_of held) k [])))

  pub out_less : (m m' : Sat P E R) (held : List (ℕ × P)) (k : ℕ) (p : P) → HasOut c m (held ++ (k, p) ∷ []) → m' ≡ (released m.0, rest m.1) → HasOut c m' held
  out_less m m' held k p out e = subst (λ n. HasOut c n held) (sym e) (record {
    shown = ap but_last (out.shown ∙ map-append (λ (x : ℕ × P). (x.0, c.meaning x.1)) held ((k, p) ∷ [])) ∙ but_last_snoc (meant c held) (k, c.meaning p);
    carried = ap rest (out.carried ∙ (ap (λ ks. backwards ks []) (map-append fst held ((k, p) ∷ [])) ∙ backwards_snoc (slots_of held) k []));
  })
