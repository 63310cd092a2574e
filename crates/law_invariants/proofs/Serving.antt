-- The snapshot that serves a time, where the time is at or above the floor.
use Rattle.std.proofs.Common.{ℕ, ◌≡◌, ◌≤◌, List, [], ◌∷◌, Option, Some, None, true, false, cond, ◌&&◌, ◌||◌, inl, inr, refl, sym, ap, subst, ◌∙◌, arith, not, leb, le-leb, leb-true}
use Rattle.std.specs.Option.{is_some, option_map, option_or}
use Rattle.std.proofs.lemmas.Bool.{true≢false}
use Rattle.std.proofs.lemmas.Bool.Decides.{nat_tests}
use Rattle.model.specs.Cluster.{Id, same, In, Schedule, SnapshotRecord, RestorationRecord, CloneRecord, is_restored, schedule_with, Master}
use Rattle.model.specs.Journal.{Change}
use Rattle.model.specs.Schedules.{floor, serving, least_low}
use Rattle.model.specs.Operations.{restoration_of, clone_with, time_of_user}
use Rattle.model.specs.Cleanup.{floor_of}
use Rattle.model.specs.Moves.{is_complete, incomplete}
use Rattle.law_store.proofs.Keys.{either_way}
use Rattle.law_invariants.specs.Operations.{SnapshotsRise, IsServing, OperationsGood}
use Rattle.law_invariants.proofs.Remembering.{has_low}
use Rattle.law_invariants.proofs.Finding.{same_equal, same_self, both_pass, passes_both, none_or_some}
use Rattle.law_invariants.proofs.Operating.{is_held}
use Rattle.law_invariants.proofs.Ticking.{not_true}

-- it is complete, of the namespace, and at or after the time
pub record IsMatch (r : SnapshotRecord) (ns : Id) (to : ℕ) : Type 0 where
  pub namespace_is : r.namespace ≡ ns
  pub complete : r.complete ≡ true
  pub reaches : to ≤ r.at

match_passes : (r : SnapshotRecord) (ns : Id) (to : ℕ) → IsMatch r ns to → ((same r.namespace ns && r.complete) && leb to r.at) ≡ true
match_passes r ns to h = passes_both (same r.namespace ns && r.complete) (leb to r.at)
    (passes_both (same r.namespace ns) r.complete (ap (λ i. same i ns) h.namespace_is ∙ same_self ns) h.complete) (le-leb to r.at h.reaches)

passes_match : (r : SnapshotRecord) (ns : Id) (to : ℕ) → ((same r.namespace ns && r.complete) && leb to r.at) ≡ true → IsMatch r ns to
passes_match r ns to e =
    let b = both_pass (same r.namespace ns && r.complete) (leb to r.at) e in
    let k = both_pass (same r.namespace ns) r.complete b.0 in
    record { namespace_is = same_equal r.namespace ns k.0; complete = k.1; reaches = leb-true to r.at b.1 }

pub serving_is : (rs : List SnapshotRecord) (ns : Id) (to : ℕ) (s : SnapshotRecord) → serving rs ns to ≡ Some s → In s rs × IsMatch s ns to
serving_is [] ns to s e = absurd (let q = e in grind arith)
serving_is (r ∷ rs) ns to s e = either_way ((same r.namespace ns && r.complete) && leb to r.at)
    (λ b. let k : Some r ≡ Some s = sym (ap (λ c. cond c (Some r) (serving rs ns to)) b) ∙ e in let first : r ≡ s = cc in (inl first, subst (λ q. IsMatch q ns to) first (passes_match r ns to b)))
    (λ b. let k : serving rs ns to ≡ Some s = sym (ap (λ c. cond c (Some r) (serving rs ns to)) b) ∙ e in let h = serving_is rs ns to s k in (inr h.0, h.1))

-- it is the first
pub serving_least : (rs : List SnapshotRecord) (ns : Id) (to : ℕ) (s q : SnapshotRecord) → SnapshotsRise rs → serving rs ns to ≡ Some s → In q rs → IsMatch q ns to → s.at ≤ q.at
serving_least [] ns to s q rise e isin h = absurd isin
serving_least (r ∷ rs) ns to s q rise e isin h = either_way ((same r.namespace ns && r.complete) && leb to r.at)
    (λ b.
    let k : Some r ≡ Some s = sym (ap (λ c. cond c (Some r) (serving rs ns to)) b) ∙ e in
    let first : r.at ≡ s.at = ap (λ x. x.at) (let f : r ≡ s = cc in f) in
    elim isin [
      | inl is ↦ (let same_ : r.at ≡ q.at = ap (λ x. x.at) is in omega arith)
      | inr rest ↦ (let l = (rise.0 q rest).1 in omega arith)
    ])
    (λ b.
    let k : serving rs ns to ≡ Some s = sym (ap (λ c. cond c (Some r) (serving rs ns to)) b) ∙ e in
    elim isin [
      | inl is ↦ absurd (true≢false (sym (match_passes r ns to (subst (λ x. IsMatch x ns to) (sym is) h)) ∙ b))
      | inr rest ↦ serving_least rs ns to s q rise.1 k rest h
    ])

pub serving_some : (rs : List SnapshotRecord) (ns : Id) (to : ℕ) (q : SnapshotRecord) → In q rs → IsMatch q ns to → (s : SnapshotRecord) × (serving rs ns to ≡ Some s)
serving_some [] ns to q isin h = absurd isin
serving_some (r ∷ rs) ns to q isin h = either_way ((same r.namespace ns && r.complete) && leb to r.at)
    (λ b. (r, ap (λ c. cond c (Some r) (serving rs ns to)) b))
    (λ b.
    let rest : In q rs = elim isin [ inl is ↦ absurd (true≢false (sym (match_passes r ns to (subst (λ x. IsMatch x ns to) (sym is) h)) ∙ b)) | inr rest ↦ rest ] in
    let k = serving_some rs ns to q rest h in (k.0, ap (λ c. cond c (Some r) (serving rs ns to)) b ∙ k.1))

-- from the floor on, the rows of a time can be taken from it
pub served : (m : Master) (changes : List Change) (ns : Id) (to : ℕ) (s : SnapshotRecord) → OperationsGood m changes → floor_of m ns m.clock ≤ to → serving m.snapshots ns to ≡ Some s → IsServing m s.id ns to
served m changes ns to s ops above e =
    let f = serving_is m.snapshots ns to s e in
    let g = ops.snapshots s f.0 in
    record {
      serving = s;
      kept = f.0;
      id_is = refl;
      complete = f.1.complete;
      namespace_is = f.1.namespace_is;
      after = elim g.reached [
        | inl l ↦ (let u : floor_of m s.namespace m.clock ≤ to = subst (λ i. floor_of m i m.clock ≤ to) (sym f.1.namespace_is) above in omega arith)
        | inr q ↦ either_way (leb to s.after)
            (λ b.
            let l : to ≤ s.after = leb-true to s.after b in
            let k : s.at ≤ q.0.at = serving_least m.snapshots ns to s q.0 ops.apart.snapshots_rise e q.1.0
            (record { namespace_is = q.1.1.0 ∙ f.1.namespace_is; complete = q.1.1.1.1; reaches = (let x = q.1.1.1.0 in omega arith) }) in
            let x = q.1.1.1.0 in
            let y = g.rises in absurd (omega arith))
            (λ b. grind (arith, nat_tests))
      ];
      reaches = f.1.reaches;
    }

restoration_of_is : (rs : List RestorationRecord) (ns : Id) (q : RestorationRecord) → restoration_of rs ns ≡ Some q → In q rs × ((is_restored q.state ≡ false) × (q.namespace ≡ ns))
restoration_of_is [] ns q e = absurd (let k = e in grind arith)
restoration_of_is (r ∷ rs) ns q e = either_way (same r.namespace ns && not (is_restored r.state))
    (λ b.
    let k : Some r ≡ Some q = sym (ap (λ c. cond c (Some r) (restoration_of rs ns)) b) ∙ e in
    let first : r ≡ q = cc in
    let t = both_pass (same r.namespace ns) (not (is_restored r.state)) b in
    (inl first, (ap (λ x. is_restored x.state) (sym first) ∙ not_true (is_restored r.state) t.1, ap (λ x. x.namespace) (sym first) ∙ same_equal r.namespace ns t.0)))
    (λ b.
    let k : restoration_of rs ns ≡ Some q = sym (ap (λ c. cond c (Some r) (restoration_of rs ns)) b) ∙ e in
    let h = restoration_of_is rs ns q k in (inr h.0, h.1))

floor_least : (s : Option ℕ) (to n : ℕ) → is_some s ≡ true → floor s (Some to) n ≤ to
floor_least None to n e = absurd (true≢false (sym e))
floor_least (Some s) to n e = omega arith

-- the time to which a restoration goes is at or above the floor
pub floor_restores : (m : Master) (changes : List Change) (r : RestorationRecord) → OperationsGood m changes → In r m.restorations → is_restored r.state ≡ false → floor_of m r.namespace m.clock ≤ r.to
floor_restores m changes r ops there unfinished =
    let s = (ops.restorations r there).scheduled unfinished in
    let kept : is_some (least_low m.schedules r.namespace m.clock) ≡ true = ap is_some (has_low m.schedules r.namespace m.clock s.0 s.1.0 s.1.1.1).1.0 in
    let found : restoration_of m.restorations r.namespace ≡ Some r = none_or_some (restoration_of m.restorations r.namespace)
    (λ none. absurd (true≢false (sym (is_held m.restorations r there unfinished) ∙ ap is_some none)))
    (λ q some. let k = restoration_of_is m.restorations r.namespace q some in some ∙ ap Some (ops.apart.one_restoration q r k.0 there k.1.0 unfinished k.1.1)) in
    let time : time_of_user m r.namespace ≡ Some r.to = ap (λ q. option_or (option_map {T = RestorationRecord} (λ r. r.to) q) (option_map {T = CloneRecord} (λ c. c.to) (clone_with m.clones r.namespace))) found in
    subst (λ t. floor (least_low m.schedules r.namespace m.clock) t m.clock ≤ r.to) (sym time) (floor_least (least_low m.schedules r.namespace m.clock) r.to m.clock kept)

-- Complete snapshots, and schedules, by their identifiers

pub complete_is : (rs : List SnapshotRecord) (id : Id) → incomplete rs id ≡ None → (q : SnapshotRecord) × (In q rs × ((q.id ≡ id) × (q.complete ≡ true)))
complete_is rs id e = any rs (either_way (is_complete rs id) (λ b. b) (λ b. absurd (let k : Some id ≡ None = sym (ap (λ c. cond c None (Some id)) b) ∙ e in grind arith)))
  where
    any : (qs : List SnapshotRecord) → is_complete qs id ≡ true → (q : SnapshotRecord) × (In q qs × ((q.id ≡ id) × (q.complete ≡ true)))
    any [] b = absurd (true≢false (sym b))
    any (q ∷ qs) b = either_way (same q.id id && q.complete)
        (λ t. let k = both_pass (same q.id id) q.complete t in (q, (inl refl, (same_equal q.id id k.0, k.1))))
        (λ t. let k : is_complete qs id ≡ true = sym (ap (λ c. c || is_complete qs id) t) ∙ b in let r = any qs k in (r.0, (inr r.1.0, r.1.1)))

pub schedule_found : (ss : List Schedule) (s : Schedule) → In s ss → (t : Schedule) × (schedule_with ss s.id ≡ Some t)
schedule_found [] s isin = absurd isin
schedule_found (t ∷ ss) s isin = either_way (same t.id s.id)
    (λ b. (t, ap (λ c. cond c (Some t) (schedule_with ss s.id)) b))
    (λ b.
    let rest : In s ss = elim isin [ inl is ↦ absurd (true≢false (sym (ap (λ x. same x.id s.id) is ∙ same_self s.id) ∙ b)) | inr rest ↦ rest ] in
    let k = schedule_found ss s rest in (k.0, ap (λ c. cond c (Some t) (schedule_with ss s.id)) b ∙ k.1))
