-- The unfinished clone that uses a namespace, as it is found, and floors where clones change.
use Rattle.std.proofs.Common.{ℕ, ◌≡◌, ◌≤◌, List, [], ◌∷◌, Option, Some, None, Bool, true, false, ◌&&◌, ◌||◌, inl, inr, refl, sym, ap, subst, ◌∙◌, arith, not, le_refl}
use Rattle.std.specs.Option.{option_or, option_map}
use Rattle.std.proofs.lemmas.Bool.{true≢false}
use Rattle.model.specs.Cluster.{Id, same, In, CloneRecord, Sent, is_cloned, Master}
use Rattle.model.specs.Schedules.{floor, least_low}
use Rattle.model.specs.Operations.{restoration_of, clone_with}
use Rattle.law_store.proofs.Keys.{either_way}
use Rattle.law_invariants.specs.Operations.{Uses}
use Rattle.law_invariants.proofs.Finding.{none_or_some, both_pass, passes_both, same_equal, same_self}
use Rattle.law_invariants.proofs.Ticking.{not_true}
use Rattle.law_clones.proofs.Beside.{with_clones, FloorsRise}

uses_it : (c : CloneRecord) (ns : Id) → Uses c ns → (same c.target_id ns || same c.source ns) ≡ true
uses_it c ns (inl e) = or_second (same c.target_id ns) (same c.source ns) (ap (λ i. same i ns) e ∙ same_self ns)
  where
    or_second : (a b : Bool) → b ≡ true → (a || b) ≡ true
    or_second true b e = refl
    or_second false b e = e
uses_it c ns (inr e) = let b : same c.target_id ns ≡ true = ap (λ i. same i ns) e ∙ same_self ns in rw b refl

pub it_uses : (c : CloneRecord) (ns : Id) → (same c.target_id ns || same c.source ns) ≡ true → Uses c ns
it_uses c ns e = either_way (same c.target_id ns)
    (λ b. inr (same_equal c.target_id ns b))
    (λ b. let k : same c.source ns ≡ true = rw b at e in inl (same_equal c.source ns k))

pub user_is : (cs : List CloneRecord) (ns : Id) (c : CloneRecord) → clone_with cs ns ≡ Some c → In c cs × (Uses c ns × (is_cloned c.state ≡ false))
user_is [] ns c e = absurd (let q = e in grind arith)
user_is (d ∷ cs) ns c e = either_way ((same d.target_id ns || same d.source ns) && not (is_cloned d.state))
    (λ b.
    let k : Some d ≡ Some c = rw b at e in
    let first : d ≡ c = cc in
    let t = both_pass (same d.target_id ns || same d.source ns) (not (is_cloned d.state)) b in
    (inl first, (subst (λ x. Uses x ns) first (it_uses d ns t.0), ap (λ x. is_cloned x.state) (sym first) ∙ not_true (is_cloned d.state) t.1)))
    (λ b. let k : clone_with cs ns ≡ Some c = rw b at e in let h = user_is cs ns c k in (inr h.0, h.1))

pub user_none : (cs : List CloneRecord) (ns : Id) (c : CloneRecord) → clone_with cs ns ≡ None → In c cs → Uses c ns → is_cloned c.state ≡ false → ⊥
user_none [] ns c e isin uses unfinished = isin
user_none (d ∷ cs) ns c e isin uses unfinished = either_way ((same d.target_id ns || same d.source ns) && not (is_cloned d.state))
    (λ b. let k : Some d ≡ None = rw b at e in grind arith)
    (λ b. let k : clone_with cs ns ≡ None = rw b at e in elim isin [
      | inl first ↦ true≢false (sym (passes_both (same d.target_id ns || same d.source ns) (not (is_cloned d.state)) (uses_it d ns (subst (λ x. Uses x ns) (sym first) uses))
          (ap not (ap (λ x. is_cloned x.state) first ∙ unfinished))) ∙ b)
      | inr rest ↦ user_none cs ns c k rest uses unfinished
    ])

-- each clone that uses a namespace now used it before, to the same time
abbrev pub WereUsers : List CloneRecord → List CloneRecord → Type 0
WereUsers cs ds = (d : CloneRecord) (ns : Id) → In d ds → Uses d ns → is_cloned d.state ≡ false → (c : CloneRecord) × (In c cs × (Uses c ns × ((is_cloned c.state ≡ false) × (c.to ≡ d.to))))

abbrev OneUser : List CloneRecord → Type 0
OneUser cs = (c d : CloneRecord) (ns : Id) → In c cs → In d cs → is_cloned c.state ≡ false → is_cloned d.state ≡ false → Uses c ns → Uses d ns → c ≡ d

floor_without : (s : Option ℕ) (a b : Option ℕ) (n : ℕ) → floor s (option_or a b) n ≤ floor s (option_or a None) n
floor_without None a b n = le_refl _
floor_without (Some s) (Some x) b n = le_refl _
floor_without (Some s) None None n = le_refl _
floor_without (Some s) None (Some y) n = omega arith

abbrev time_in : Master → List CloneRecord → Id → Option ℕ
time_in m cs ns = option_or (option_map (λ r. r.to) (restoration_of m.restorations ns)) (option_map (λ r. r.to) (clone_with cs ns))

pub users_floors : (m : Master) (ds : List CloneRecord) (s : List Sent) → OneUser m.clones → WereUsers m.clones ds → FloorsRise m (with_clones m ds s)
users_floors m ds s one were = λ ns.
    let least = least_low m.schedules ns m.clock in
    let first = option_map (λ r. r.to) (restoration_of m.restorations ns) in
    none_or_some (clone_with ds ns)
    (λ none. subst (λ d. floor least (time_in m m.clones ns) m.clock ≤ floor least (option_or first (option_map {T = CloneRecord} (λ r. r.to) d)) m.clock) (sym none)
    (floor_without least first (option_map (λ r. r.to) (clone_with m.clones ns)) m.clock))
    (λ d some.
    let k = user_is ds ns d some in
    let w = were d ns k.0 k.1.0 k.1.1 in
    none_or_some (clone_with m.clones ns)
    (λ none. absurd (user_none m.clones ns w.0 none w.1.0 w.1.1.0 w.1.1.1.0))
    (λ c found.
    let h = user_is m.clones ns c found in
    let is : c ≡ w.0 = one c w.0 ns h.0 w.1.0 h.1.1 w.1.1.1.0 h.1.0 w.1.1.0 in
    let same_ : time_in m m.clones ns ≡ time_in m ds ns =
    ap (λ q. option_or first (option_map {T = CloneRecord} (λ r. r.to) q)) found ∙ ap (λ x. option_or first (Some x)) (ap (λ q. q.to) is ∙ w.1.1.1.1) ∙ sym (ap (λ q. option_or first (option_map {T = CloneRecord} (λ r. r.to) q)) some) in
    subst (λ t. floor least (time_in m m.clones ns) m.clock ≤ floor least t m.clock) same_ (le_refl _)))
