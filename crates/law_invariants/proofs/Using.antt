-- Schedules as they are found, and namespaces that no unfinished operation uses.
use Rattle.std.proofs.Common.{ℕ, ◌≡◌, ◌≤◌, List, [], ◌∷◌, ◌++◌, Option, Some, None, Bool, true, false, cond, ◌&&◌, ◌||◌, inl, inr, refl, sym, ap, subst, ◌∙◌, arith, not, map}
use Rattle.std.specs.Option.{is_some, option_or, option_map}
use Rattle.std.proofs.lemmas.Bool.{true≢false}
use Rattle.model.specs.Cluster.{Id, same, In, Schedule, SnapshotRecord, RestorationRecord, CloneRecord, is_restored, is_cloned, schedule_with, schedule_of, unfinished_of, is_visible, Master, UnknownSchedule}
use Rattle.model.specs.Schedules.{low, least_with, least_low}
use Rattle.model.specs.Operations.{user, restoration_of, clone_with, time_of_user}
use Rattle.model.specs.Changes.{found_schedule, clone_named}
use Rattle.law_invariants.proofs.Judging.{found_is}
use Rattle.std.specs.Prelude.{Ok, is_some}
use Rattle.law_store.proofs.Keys.{either_way, key_self}
use Rattle.law_invariants.specs.Operations.{Alone, Uses, SnapshotsRise}
use Rattle.law_invariants.proofs.Finding.{in_append, in_mapped, passes_both, both_pass, same_equal, same_self}
use Rattle.law_invariants.proofs.Operating.{is_held, held_first, held_second}
use Rattle.law_invariants.proofs.Remembering.{LowRises, first_rises}
use Rattle.std.specs.Str.{bytes_eq}

-- Lists

pub alone_added : {A : Type 0} (drawn : A → Id) (xs : List A) (y : A) → Alone drawn xs → ((x : A) → In x xs → drawn x ≡ drawn y → ⊥) → Alone drawn (xs ++ y ∷ [])
alone_added drawn xs y h apart = λ x z in_x in_z e. elim (in_append xs (y ∷ []) x in_x) [
  | inl a ↦ elim (in_append xs (y ∷ []) z in_z) [
    | inl b ↦ h x z a b e
    | inr b ↦ elim b [ inl is ↦ absurd (apart x a (e ∙ ap drawn (sym is))) | inr none ↦ absurd none ]
  ]
  | inr a ↦ elim a [
    | inl is ↦ elim (in_append xs (y ∷ []) z in_z) [
      | inl b ↦ absurd (apart z b (sym e ∙ ap drawn (sym is)))
      | inr b ↦ elim b [ inl is_too ↦ sym is ∙ is_too | inr none ↦ absurd none ]
    ]
    | inr none ↦ absurd none
  ]
]

-- Schedules

pub schedule_with_is : (ss : List Schedule) (id : Id) (s : Schedule) → schedule_with ss id ≡ Some s → In s ss × (s.id ≡ id)
schedule_with_is [] id s e = absurd (let q = e in grind arith)
schedule_with_is (t ∷ ss) id s e = either_way (same t.id id)
    (λ b. let k : Some t ≡ Some s = rw b at e in let first : t ≡ s = cc in (inl first, ap (λ x. x.id) (sym first) ∙ same_equal t.id id b))
    (λ b. let k : schedule_with ss id ≡ Some s = rw b at e in let h = schedule_with_is ss id s k in (inr h.0, h.1))

-- the schedule that a command names
pub schedule_is : (m : Master) (schedule : Id) (s : Schedule) → found_schedule m schedule ≡ Ok s → In s m.schedules × (s.id ≡ schedule)
schedule_is m schedule s e = schedule_with_is m.schedules schedule s (found_is (schedule_with m.schedules schedule) UnknownSchedule s e)

pub schedule_of_is : (ss : List Schedule) (ns : Id) (s : Schedule) → schedule_of ss ns ≡ Some s → In s ss × (s.namespace ≡ ns)
schedule_of_is [] ns s e = absurd (let q = e in grind arith)
schedule_of_is (t ∷ ss) ns s e = either_way (same t.namespace ns)
    (λ b. let k : Some t ≡ Some s = rw b at e in let first : t ≡ s = cc in (inl first, ap (λ x. x.namespace) (sym first) ∙ same_equal t.namespace ns b))
    (λ b. let k : schedule_of ss ns ≡ Some s = rw b at e in let h = schedule_of_is ss ns s k in (inr h.0, h.1))

pub schedule_none : (ss : List Schedule) (ns : Id) (s : Schedule) → schedule_of ss ns ≡ None → In s ss → s.namespace ≡ ns → ⊥
schedule_none [] ns s e isin is = isin
schedule_none (t ∷ ss) ns s e isin is = either_way (same t.namespace ns)
    (λ b. let k : Some t ≡ None = rw b at e in grind arith)
    (λ b. let k : schedule_of ss ns ≡ None = rw b at e in
    elim isin [ inl first ↦ true≢false (sym (ap (λ x. same x.namespace ns) first ∙ ap (λ i. same i ns) is ∙ same_self ns) ∙ b) | inr rest ↦ schedule_none ss ns s k rest is ])

pub schedule_there : (ss : List Schedule) (s : Schedule) → In s ss → is_some (schedule_of ss s.namespace) ≡ true
schedule_there [] s isin = absurd isin
schedule_there (t ∷ ss) s (inl e) = let b : same t.namespace s.namespace ≡ true = ap (λ x. same x.namespace s.namespace) e ∙ same_self s.namespace in rw b refl
schedule_there (t ∷ ss) s (inr isin) = let rest = schedule_there ss s isin in either_way (same t.namespace s.namespace) (λ b. rw b refl) (λ b. rw b rest)

pub schedule_before : (ss : List Schedule) (more : Schedule) (ns : Id) (s : Schedule) → schedule_of ss ns ≡ Some s → schedule_of (ss ++ more ∷ []) ns ≡ Some s
schedule_before [] more ns s e = absurd (let q = e in grind arith)
schedule_before (t ∷ ss) more ns s e = either_way (same t.namespace ns) (λ b. rw b (rw b at e)) (λ b. rw b (schedule_before ss more ns s (rw b at e)))

pub schedule_last : (ss : List Schedule) (more : Schedule) (ns : Id) → schedule_of ss ns ≡ None → schedule_of (ss ++ more ∷ []) ns ≡ cond (same more.namespace ns) (Some more) None
schedule_last [] more ns e = refl
schedule_last (t ∷ ss) more ns e = either_way (same t.namespace ns)
    (λ b. absurd (let k : Some t ≡ None = rw b at e in grind arith))
    (λ b. rw b (schedule_last ss more ns (rw b at e)))

-- Namespaces that none uses

pub record NotUsed (m : Master) (ns : Id) : Type 0 where
  pub restoration : (r : RestorationRecord) → In r m.restorations → is_restored r.state ≡ false → r.namespace ≡ ns → ⊥
  pub clone : (c : CloneRecord) → In c m.clones → is_cloned c.state ≡ false → Uses c ns → ⊥

uses_it : (c : CloneRecord) (ns : Id) → Uses c ns → (same c.target_id ns || same c.source ns) ≡ true
uses_it c ns (inl e) = or_second (same c.target_id ns) (same c.source ns) (ap (λ i. same i ns) e ∙ same_self ns)
  where
    or_second : (a b : Bool) → b ≡ true → (a || b) ≡ true
    or_second true b e = refl
    or_second false b e = e
uses_it c ns (inr e) = let b : same c.target_id ns ≡ true = ap (λ i. same i ns) e ∙ same_self ns in rw b refl

is_used : (cs : List CloneRecord) (c : CloneRecord) (ns : Id) → In c cs → is_cloned c.state ≡ false → Uses c ns → is_some (clone_with cs ns) ≡ true
is_used [] c ns isin unfinished uses = absurd isin
is_used (d ∷ cs) c ns (inl e) unfinished uses =
    let both : ((same d.target_id ns || same d.source ns) && not (is_cloned d.state)) ≡ true =
    passes_both _ _ (ap (λ k. same k.target_id ns || same k.source ns) e ∙ uses_it c ns uses) (ap (λ k. not (is_cloned k.state)) e ∙ ap not unfinished) in
    rw both refl
is_used (d ∷ cs) c ns (inr isin) unfinished uses = let rest = is_used cs c ns isin unfinished uses in
    either_way ((same d.target_id ns || same d.source ns) && not (is_cloned d.state)) (λ b. rw b refl) (λ b. rw b rest)

pub not_used : (m : Master) (ns : Id) → is_some (user m ns) ≡ false → NotUsed m ns
not_used m ns free = record {
  restoration = λ r isin unfinished is. (
      let used : is_some (user m r.namespace) ≡ true = held_first (restoration_of m.restorations r.namespace) _ (is_held m.restorations r isin unfinished) in
      true≢false (sym used ∙ ap (λ k. is_some (user m k)) is ∙ free));
  clone = λ c isin unfinished uses. (
      let used : is_some (user m ns) ≡ true = held_second (restoration_of m.restorations ns) (clone_with m.clones ns) (is_used m.clones c ns isin unfinished uses) in
      true≢false (sym used ∙ free));
}

pub none_restores : (rs : List RestorationRecord) (ns : Id) → ((r : RestorationRecord) → In r rs → is_restored r.state ≡ false → r.namespace ≡ ns → ⊥) → restoration_of rs ns ≡ None
none_restores [] ns free = refl
none_restores (r ∷ rs) ns free = either_way (same r.namespace ns && not (is_restored r.state))
    (λ b. let t = both_pass (same r.namespace ns) (not (is_restored r.state)) b in absurd (free r (inl refl) (not_true (is_restored r.state) t.1) (same_equal r.namespace ns t.0)))
    (λ b. rw b (none_restores rs ns (λ k isin. free k (inr isin))))
  where
    not_true : (b : Bool) → not b ≡ true → b ≡ false
    not_true false e = refl
    not_true true e = absurd (true≢false (sym e))

pub none_clones : (cs : List CloneRecord) (ns : Id) → ((c : CloneRecord) → In c cs → is_cloned c.state ≡ false → Uses c ns → ⊥) → clone_with cs ns ≡ None
none_clones [] ns free = refl
none_clones (c ∷ cs) ns free = either_way ((same c.target_id ns || same c.source ns) && not (is_cloned c.state))
    (λ b. let t = both_pass (same c.target_id ns || same c.source ns) (not (is_cloned c.state)) b in
    absurd (free c (inl refl) (not_true (is_cloned c.state) t.1) (used t.0)))
    (λ b. rw b (none_clones cs ns (λ k isin. free k (inr isin))))
  where
    not_true : (b : Bool) → not b ≡ true → b ≡ false
    not_true false e = refl
    not_true true e = absurd (true≢false (sym e))

    used : (same c.target_id ns || same c.source ns) ≡ true → Uses c ns
    used e = either_way (same c.target_id ns)
        (λ b. inr (same_equal c.target_id ns b))
        (λ b. let k : same c.source ns ≡ true = rw b at e in inl (same_equal c.source ns k))

pub no_time : (m : Master) (ns : Id) → NotUsed m ns → time_of_user m ns ≡ None
no_time m ns free =
    ap (λ r. option_or (option_map (λ q. q.to) r) (option_map (λ q. q.to) (clone_with m.clones ns))) (none_restores m.restorations ns free.restoration)
    ∙ ap (λ c. option_or None (option_map (λ q. q.to) c)) (none_clones m.clones ns free.clone)

pub schedule_free : (ss : List Schedule) (ns : Id) → ((s : Schedule) → In s ss → s.namespace ≡ ns → ⊥) → schedule_of ss ns ≡ None
schedule_free [] ns apart = refl
schedule_free (s ∷ ss) ns apart = either_way (same s.namespace ns)
    (λ b. absurd (apart s (inl refl) (same_equal s.namespace ns b)))
    (λ b. ap (λ q. cond q (Some s) (schedule_of ss ns)) b ∙ schedule_free ss ns (λ k isin. apart k (inr isin)))

pub unfinished_none : (rs : List SnapshotRecord) (ns : Id) (q : SnapshotRecord) → unfinished_of rs ns ≡ None → In q rs → q.complete ≡ false → q.namespace ≡ ns → ⊥
unfinished_none [] ns q e isin open_ is = isin
unfinished_none (r ∷ rs) ns q e isin open_ is = either_way (same r.namespace ns && not r.complete)
    (λ b. let k : Some r.id ≡ None = rw b at e in grind arith)
    (λ b. let k : unfinished_of rs ns ≡ None = rw b at e in
    elim isin [
      | inl first ↦ (
          let here : same r.namespace ns ≡ true = ap (λ x. same x.namespace ns) first ∙ ap (λ i. same i ns) is ∙ same_self ns in
          let still : not r.complete ≡ true = ap (λ x. not x.complete) first ∙ ap not open_ in
          true≢false (sym (passes_both (same r.namespace ns) (not r.complete) here still) ∙ b))
      | inr rest ↦ unfinished_none rs ns q k rest open_ is
    ])

pub neither_is : {A : Type 0} (a b : Option A) → is_some (option_or a b) ≡ false → (a ≡ None) × (b ≡ None)
neither_is None None e = (refl, refl)
neither_is None (Some x) e = absurd (true≢false e)
neither_is (Some x) b e = absurd (true≢false e)

-- Lists of which each item is changed

pub mapped_is : {A : Type 0} (f : A → A) (xs : List A) (b : A) → In b (map f xs) → (a : A) × (In a xs × (f a ≡ b))
mapped_is {A} f xs b isin = in_mapped f (λ b. (a : A) × (In a xs × (f a ≡ b))) xs (λ a h. (a, (h, refl))) b isin

pub alone_mapped : {A : Type 0} (drawn : A → Id) (f : A → A) (xs : List A) → ((a : A) → drawn (f a) ≡ drawn a) → Alone drawn xs → Alone drawn (map f xs)
alone_mapped drawn f xs stays h = λ x y in_x in_y e.
    let p = mapped_is f xs x in_x in
    let q = mapped_is f xs y in_y in
    let same_ = h p.0 q.0 p.1.0 q.1.0 (sym (stays p.0) ∙ ap drawn p.1.1 ∙ e ∙ ap drawn (sym q.1.1) ∙ stays q.0) in
    sym p.1.1 ∙ ap f same_ ∙ q.1.1

-- the least low end rises where those of the schedules do, and they keep their namespaces
pub mapped_rise : (ss : List Schedule) (f : Schedule → Schedule) (ns : Id) (m n : ℕ) → ((s : Schedule) → (f s).namespace ≡ s.namespace) → ((s : Schedule) → low s m ≤ low (f s) n)
    → LowRises (least_low ss ns m) (least_low (map f ss) ns n)
mapped_rise [] f ns m n names rises = tt
mapped_rise (s ∷ ss) f ns m n names rises =
    subst (λ i. LowRises (least_low (s ∷ ss) ns m) (cond (same i ns) (Some (least_with (least_low (map f ss) ns n) (low (f s) n))) (least_low (map f ss) ns n))) (sym (names s))
    (first_rises (same s.namespace ns) (least_low ss ns m) (least_low (map f ss) ns n) (low s m) (low (f s) n) (rises s) (mapped_rise ss f ns m n names rises))

-- a floor stays where schedules keep their namespaces and windows
pub mapped_lows : (ss : List Schedule) (f : Schedule → Schedule) (ns : Id) (n : ℕ) → ((s : Schedule) → (f s).namespace ≡ s.namespace) → ((s : Schedule) → low (f s) n ≡ low s n)
    → least_low (map f ss) ns n ≡ least_low ss ns n
mapped_lows [] f ns n names lows = refl
mapped_lows (s ∷ ss) f ns n names lows =
    let rest = mapped_lows ss f ns n names lows in
    ap (λ i. cond (same i ns) (Some (least_with (least_low (map f ss) ns n) (low (f s) n))) (least_low (map f ss) ns n)) (names s)
    ∙ ap (λ o. cond (same s.namespace ns) (Some (least_with o (low (f s) n))) o) rest
    ∙ ap (λ l. cond (same s.namespace ns) (Some (least_with (least_low ss ns n) l)) (least_low ss ns n)) (lows s)

pub unreserved_name : (cs : List CloneRecord) (name : List ℕ) → is_some (clone_named cs name) ≡ false → (c : CloneRecord) → In c cs → is_visible c.state ≡ false → name ≡ c.target → ⊥
unreserved_name [] name none c isin unseen is = isin
unreserved_name (q ∷ cs) name none c isin unseen is = either_way (bytes_eq q.target name && not (is_visible q.state))
    (λ b. let k : true ≡ false = rw b at none in true≢false k)
    (λ b. elim isin as (λ _. ⊥) [
      | inl e ↦ (
          let still : not (is_visible q.state) ≡ true = ap (λ k. not (is_visible k.state)) e ∙ ap not unseen in
          let here : bytes_eq q.target name ≡ true = ap (λ k. bytes_eq k.target name) e ∙ ap (λ k. bytes_eq c.target k) is ∙ key_self c.target in
          true≢false (sym (passes_both (bytes_eq q.target name) (not (is_visible q.state)) here still) ∙ b))
      | inr rest ↦ unreserved_name cs name (rw b at none) c rest unseen is
    ])

pub one_snapshot : (rs : List SnapshotRecord) (q r : SnapshotRecord) → SnapshotsRise rs → In q rs → In r rs → q.id ≡ r.id → q ≡ r
one_snapshot [] q r h in_q in_r e = absurd in_q
one_snapshot (s ∷ rs) q r h (inl a) (inl b) e = sym a ∙ b
one_snapshot (s ∷ rs) q r h (inl a) (inr b) e = absurd (let l = (h.0 r b).0 in let k : s.id.number ≡ r.id.number = ap (λ x. x.id.number) a ∙ ap (λ i. i.number) e in omega arith)
one_snapshot (s ∷ rs) q r h (inr a) (inl b) e = absurd (let l = (h.0 q a).0 in let k : s.id.number ≡ q.id.number = ap (λ x. x.id.number) b ∙ ap (λ i. i.number) (sym e) in omega arith)
one_snapshot (s ∷ rs) q r h (inr a) (inr b) e = one_snapshot rs q r h.1 a b e
