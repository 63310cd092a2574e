-- Where no operation holds a namespace, no tablet of it awaits rows.
use Rattle.std.proofs.Common.{◌≡◌, List, Some, None, true, false, sym, ap, ◌∙◌, ℕ, ◌≤◌, [], ◌∷◌, Option, cond, inl, inr, refl, arith, ◌+◌, ◌&&◌, not, is_some}
use Rattle.std.specs.Option.{is_some, option_or}
use Rattle.std.proofs.lemmas.Bool.{true≢false}
use Rattle.model.specs.Cluster.{Id, same, In, Interval, owner_of, Mark, Tablet, RestoreFromKind, is_done, is_restored, Listed, RestorationRecord, RestorationState, Restoring, Master}
use Rattle.model.specs.Journal.{Change as Made}
use Rattle.model.specs.Stands.{awaited_in, awaited_of, is_restore}
use Rattle.model.specs.Operations.{holder, restoration_of}
use Rattle.law_invariants.specs.Invariant.{MasterGood}
use Rattle.law_invariants.proofs.Finding.{none_or_some, same_equal, not_same, apart_by_number, either_is, both_pass, passes_both, same_self}
use Rattle.law_invariants.proofs.Operating.{is_held, held_first}
use Rattle.model.specs.Changed.{next_tablet}
use Rattle.std.specs.List.{list_any}
use Rattle.law_store.proofs.Keys.{either_way}
use Rattle.law_invariants.proofs.Ticking.{not_true}

-- A tablet that awaits rows is listed for them by a restoration that has switched.

pub record Awaits (rs : List RestorationRecord) (tablet : Id) (done : List Mark) (point : ℕ) : Type 0 where
  pub restoration : RestorationRecord
  pub known : In restoration rs
  pub serving : Id
  pub state_is : restoration.state ≡ Restoring point serving
  pub line : Listed
  pub listed : In line restoration.listed
  pub tablet_is : line.tablet ≡ tablet
  pub restores : is_restore line.body ≡ true
  pub undone : is_done done restoration.id RestoreFromKind ≡ false

any_listed : (ls : List Listed) (tablet : Id) → list_any (λ l. same l.tablet tablet && is_restore l.body) ls ≡ true → (l : Listed) × (In l ls × ((l.tablet ≡ tablet) × (is_restore l.body ≡ true)))
any_listed [] tablet e = absurd (true≢false (sym e))
any_listed (l ∷ ls) tablet e = either_is (same l.tablet tablet && is_restore l.body) (list_any (λ k. same k.tablet tablet && is_restore k.body) ls) e
    (λ here. let b = both_pass (same l.tablet tablet) (is_restore l.body) here in (l, (inl refl, (same_equal l.tablet tablet b.0, b.1))))
    (λ behind. let r = any_listed ls tablet behind in (r.0, (inr r.1.0, r.1.1)))

pub listed_any : (ls : List Listed) (l : Listed) (tablet : Id) → In l ls → l.tablet ≡ tablet → is_restore l.body ≡ true → list_any (λ k. same k.tablet tablet && is_restore k.body) ls ≡ true
listed_any [] l tablet isin is restores = absurd isin
listed_any (k ∷ ls) l tablet (inl e) is restores =
    let b : (same k.tablet tablet && is_restore k.body) ≡ true = passes_both _ _ (ap (λ q. same q.tablet tablet) e ∙ ap (λ q. same q tablet) is ∙ same_self tablet) (ap (λ q. is_restore q.body) e ∙ restores) in rw b refl
listed_any (k ∷ ls) l tablet (inr isin) is restores =
    let rest = listed_any ls l tablet isin is restores in either_way (same k.tablet tablet && is_restore k.body) (λ b. rw b refl) (λ b. rw b rest)

abbrev awaiting : RestorationState → RestorationRecord → Id → List Mark → ℕ → Type 0
awaiting state r tablet done point =
    (serving : Id) × ((state ≡ Restoring point serving) × ((l : Listed) × (In l r.listed × ((l.tablet ≡ tablet) × ((is_restore l.body ≡ true) × (is_done done r.id RestoreFromKind ≡ false))))))

awaiting_is : (state : RestorationState) (r : RestorationRecord) (tablet : Id) (done : List Mark) (point : ℕ) → awaited_of state r tablet done ≡ Some point → awaiting state r tablet done point
awaiting_is (Restoring at serving) r tablet done point e =
    let listed = list_any (λ l. same l.tablet tablet && is_restore l.body) r.listed in
    let undone = not (is_done done r.id RestoreFromKind) in
    either_way (listed && undone)
    (λ b. let both = both_pass listed undone b in
    let q : cond (listed && undone) (Some at) None ≡ Some point = e in
    let k : Some at ≡ Some point = rw b at q in
    let is : at ≡ point = cc in
    let l = any_listed r.listed tablet both.0 in (serving, (ap (λ p. Restoring p serving) is, (l.0, (l.1.0, (l.1.1.0, (l.1.1.1, not_true (is_done done r.id RestoreFromKind) both.1)))))))
    (λ b. let q : cond (listed && undone) (Some at) None ≡ Some point = e in let k : None ≡ Some point = rw b at q in absurd (let z = k in grind arith))
awaiting_is _ r tablet done point e = absurd (let q = e in grind arith)

pub awaits_is : (rs : List RestorationRecord) (tablet : Id) (done : List Mark) (point : ℕ) → awaited_in rs tablet done ≡ Some point → Awaits rs tablet done point
awaits_is [] tablet done point e = absurd (let q = e in grind arith)
awaits_is (r ∷ rs) tablet done point e = none_or_some (awaited_of r.state r tablet done)
    (λ none.
    let q : option_or (awaited_of r.state r tablet done) (awaited_in rs tablet done) ≡ Some point = e in
    let k : awaited_in rs tablet done ≡ Some point = rw none at q in
    let w = awaits_is rs tablet done point k in
    record { restoration = w.restoration; known = inr w.known; serving = w.serving; state_is = w.state_is; line = w.line; listed = w.listed; tablet_is = w.tablet_is; restores = w.restores; undone = w.undone })
    (λ at some.
    let q : option_or (awaited_of r.state r tablet done) (awaited_in rs tablet done) ≡ Some point = e in
    let k : Some at ≡ Some point = rw some at q in
    let is : at ≡ point = cc in
    let w = awaiting_is r.state r tablet done point (some ∙ k) in
    record { restoration = r; known = inl refl; serving = w.0; state_is = w.1.0; line = w.1.1.0; listed = w.1.1.1.0; tablet_is = w.1.1.1.1.0; restores = w.1.1.1.1.1.0; undone = w.1.1.1.1.1.1 })

-- the tablets of a table await no rows
abbrev pub AwaitNone : Master → Id → Type 0
AwaitNone m table = (i : Interval) (done : List Mark) → In i m.activity → same i.table table ≡ true → awaited_in m.restorations i.tablet done ≡ None

pub none_await : (m : Master) (changes : List Made) (ns table : Id) → MasterGood m changes → owner_of m.catalog.owners table ≡ Some ns → is_some (holder m ns) ≡ false → AwaitNone m table
none_await m changes ns table h owned free = λ i done isin of_table. none_or_some (awaited_in m.restorations i.tablet done)
    (λ none. none)
    (λ point some.
    let w = awaits_is m.restorations i.tablet done point some in
    let owner : owner_of m.catalog.owners i.table ≡ Some w.restoration.namespace = h.listed_of w.restoration w.line w.known w.listed i isin (sym w.tablet_is) in
    let q : Some w.restoration.namespace ≡ Some ns = sym owner ∙ ap (owner_of m.catalog.owners) (same_equal i.table table of_table) ∙ owned in
    let is : w.restoration.namespace ≡ ns = cc in
    let held : is_some (holder m w.restoration.namespace) ≡ true = held_first (restoration_of m.restorations w.restoration.namespace) _ (is_held m.restorations w.restoration w.known (ap is_restored w.state_is)) in
    absurd (true≢false (sym held ∙ ap (λ k. is_some (holder m k)) is ∙ free)))

-- a tablet with an interval of the table awaits no rows
pub calm_here : (m : Master) (id : Id) (t : Tablet) (i : Interval) → t.tablet ≡ i.tablet → In i m.activity → AwaitNone m id → same i.table id ≡ true → awaited_in m.restorations t.tablet t.done ≡ None
calm_here m id t i is isin calm of_table = ap (λ tablet. awaited_in m.restorations tablet t.done) is ∙ calm i t.done isin of_table

none_listed : (ls : List Listed) (tablet : Id) → ((l : Listed) → In l ls → same l.tablet tablet ≡ false) → list_any (λ l. same l.tablet tablet && is_restore l.body) ls ≡ false
none_listed [] tablet apart = refl
none_listed (l ∷ ls) tablet apart = let k = apart l (inl refl) in rw k (none_listed ls tablet (λ m isin. apart m (inr isin)))

pub awaited_none : (state : RestorationState) (r : RestorationRecord) (tablet : Id) (done : List Mark) → ((l : Listed) → In l r.listed → same l.tablet tablet ≡ false) → awaited_of state r tablet done ≡ None
awaited_none (Restoring point serving) r tablet done apart =
    ap (λ b. cond (b && not (is_done done r.id RestoreFromKind)) (Some point) None) (none_listed r.listed tablet apart)
awaited_none _ r tablet done apart = refl

-- a tablet that no restoration lists awaits no rows
pub none_awaited : (rs : List RestorationRecord) (tablet : Id) (done : List Mark) → ((r : RestorationRecord) (l : Listed) → In r rs → In l r.listed → same l.tablet tablet ≡ false) → awaited_in rs tablet done ≡ None
none_awaited [] tablet done apart = refl
none_awaited (r ∷ rs) tablet done apart =
    ap (λ o. option_or o (awaited_in rs tablet done)) (awaited_none r.state r tablet done (λ l isin. apart r l (inl refl) isin))
    ∙ none_awaited rs tablet done (λ q l isin lists. apart q l (inr isin) lists)

-- a new tablet is listed by no restoration
pub new_unlisted : (m : Master) (changes : List Made) (place : ℕ) (r : RestorationRecord) (l : Listed) → In r m.restorations → In l r.listed → MasterGood m changes → same l.tablet (next_tablet m.drawn.tablets (place + 1)) ≡ false
new_unlisted m changes place r l isin lists h =
    let tablet = next_tablet m.drawn.tablets (place + 1) in not_same l.tablet tablet (apart_by_number l.tablet tablet (let q : l.tablet.number ≤ m.drawn.tablets = h.listed r l isin lists in omega arith))

-- a new tablet awaits no rows
pub new_awaits : (m : Master) (changes : List Made) (place : ℕ) → MasterGood m changes → awaited_in m.restorations (next_tablet m.drawn.tablets (place + 1)) [] ≡ None
new_awaits m changes place h = none_awaited m.restorations (next_tablet m.drawn.tablets (place + 1)) [] (λ r l isin lists. new_unlisted m changes place r l isin lists h)

-- a tablet that awaits no rows awaits none of any restoration
pub settled_none : (rs : List RestorationRecord) (tablet : Id) (done : List Mark) → awaited_in rs tablet done ≡ None → (r : RestorationRecord) → In r rs → awaited_of r.state r tablet done ≡ None
settled_none [] tablet done e r isin = absurd isin
settled_none (q ∷ rs) tablet done e r isin =
    let both = neither_of (awaited_of q.state q tablet done) (awaited_in rs tablet done) e in
    elim isin as (λ _. awaited_of r.state r tablet done ≡ None) [
      | inl is ↦ ap (λ k. awaited_of k.state k tablet done) (sym is) ∙ both.0
      | inr rest ↦ settled_none rs tablet done both.1 r rest
    ]
  where
    neither_of : (a b : Option ℕ) → option_or a b ≡ None → (a ≡ None) × (b ≡ None)
    neither_of None b e = (refl, e)
    neither_of (Some x) b e = absurd (let q = e in grind arith)
