-- The snapshot that serves a time: it is complete, and the one before it is of an earlier time.
use Rattle.std.proofs.Common.{ℕ, ◌≡◌, ◌≤◌, List, [], ◌∷◌, Some, None, false, ◌&&◌, inl, inr, refl, sym, ap, subst, ◌∙◌, arith, not, Option}
use Rattle.std.specs.Option.{option_or, option_map}
use Rattle.std.proofs.lemmas.Bool.{true≢false}
use Rattle.model.specs.Cluster.{Id, same, In, Schedule, SnapshotRecord, RestorationRecord, CloneRecord, is_restored, is_cloned, schedule_of, Master}
use Rattle.model.specs.Journal.{Change}
use Rattle.model.specs.Schedules.{floor, least_low}
use Rattle.model.specs.Operations.{restoration_of, clone_with, time_of_user}
use Rattle.model.specs.Cleanup.{floor_of}
use Rattle.model.specs.Moves.{serving_clone}
use Rattle.law_store.proofs.Keys.{either_way}
use Rattle.law_invariants.specs.Operations.{IsServing, OperationsGood}
use Rattle.law_invariants.proofs.Finding.{none_or_some, both_pass, same_equal, same_self}
use Rattle.law_invariants.proofs.Ticking.{not_true}
use Rattle.law_invariants.proofs.Using.{schedule_of_is}
use Rattle.law_invariants.proofs.Serving.{served}
use Rattle.law_invariants.proofs.Remembering.{has_low}
use Rattle.law_clones.proofs.Users.{user_is, user_none}

-- The time of an unfinished clone is needed

pub not_restored : (rs : List RestorationRecord) (ns : Id) → ((r : RestorationRecord) → In r rs → is_restored r.state ≡ false → r.namespace ≡ ns → ⊥) → restoration_of rs ns ≡ None
not_restored [] ns free = refl
not_restored (r ∷ rs) ns free = either_way (same r.namespace ns && not (is_restored r.state))
    (λ b. let t = both_pass (same r.namespace ns) (not (is_restored r.state)) b in absurd (free r (inl refl) (not_true (is_restored r.state) t.1) (same_equal r.namespace ns t.0)))
    (λ b. rw b (not_restored rs ns (λ k isin. free k (inr isin))))

floor_under : (s : Option ℕ) (l to n : ℕ) → s ≡ Some l → floor s (Some to) n ≤ to
floor_under None l to n e = absurd (let q = e in grind arith)
floor_under (Some k) l to n e = omega arith

pub clone_floor : (m : Master) (changes : List Change) (c : CloneRecord) (n : ℕ) → OperationsGood m changes → In c m.clones → is_cloned c.state ≡ false → floor_of m c.source n ≤ c.to
clone_floor m changes c n ops isin unfinished =
    let k = (ops.clones c isin).scheduled unfinished in
    let least = has_low m.schedules c.source n k.0 k.1.0 k.1.1 in
    let none : restoration_of m.restorations c.source ≡ None = not_restored m.restorations c.source (λ r there open_ is. ops.apart.one_operation r c there isin open_ unfinished (inl (sym is))) in
    let found : clone_with m.clones c.source ≡ Some c = none_or_some (clone_with m.clones c.source)
    (λ gone. absurd (user_none m.clones c.source c gone isin (inl refl) unfinished))
    (λ d some. let k = user_is m.clones c.source d some in some ∙ ap Some (ops.apart.one_clone d c c.source k.0 isin k.1.1 unfinished k.1.0 (inl refl))) in
    let time : time_of_user m c.source ≡ Some c.to =
    ap (λ r. option_or (option_map {T = RestorationRecord} (λ q. q.to) r) (option_map {T = CloneRecord} (λ q. q.to) (clone_with m.clones c.source))) none
    ∙ ap (λ d. option_or None (option_map {T = CloneRecord} (λ q. q.to) d)) found in
    subst (λ t. floor (least_low m.schedules c.source n) t n ≤ c.to) (sym time) (floor_under (least_low m.schedules c.source n) least.0 c.to n least.1.0)

-- The snapshot that serves a clone

pub clone_scheduled : (m : Master) (changes : List Change) (c : CloneRecord) → OperationsGood m changes → In c m.clones → is_cloned c.state ≡ false → (s : Schedule) × ((schedule_of m.schedules c.source ≡ Some s) × (In s m.schedules × (s.namespace ≡ c.source)))
clone_scheduled m changes c ops isin unfinished =
    let k = (ops.clones c isin).scheduled unfinished in
    none_or_some (schedule_of m.schedules c.source)
    (λ none. absurd (no_schedule m.schedules k.0 none k.1.0 k.1.1))
    (λ s some. (s, (some, schedule_of_is m.schedules c.source s some)))
  where
    no_schedule : (ss : List Schedule) (s : Schedule) → schedule_of ss c.source ≡ None → In s ss → s.namespace ≡ c.source → ⊥
    no_schedule [] s e isin is = isin
    no_schedule (t ∷ ss) s e isin is = either_way (same t.namespace c.source)
        (λ b. let q : Some t ≡ None = rw b at e in grind arith)
        (λ b. let q : schedule_of ss c.source ≡ None = rw b at e in elim isin [
          | inl first ↦ true≢false (sym (ap (λ x. same x.namespace c.source) first ∙ ap (λ i. same i c.source) is ∙ same_self c.source) ∙ b)
          | inr rest ↦ no_schedule ss s q rest is
        ])

pub clone_served : (m : Master) (changes : List Change) (c : CloneRecord) (s : SnapshotRecord) → OperationsGood m changes → In c m.clones → is_cloned c.state ≡ false → serving_clone m c ≡ Some s → IsServing m s.id c.source c.to
clone_served m changes c s ops isin unfinished e = served m changes c.source c.to s ops (clone_floor m changes c m.clock ops isin unfinished) e
