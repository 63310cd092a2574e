-- The states that a record entered, as one more is entered.
use Rattle.std.proofs.Common.{◌≡◌, ◌≢◌, ℕ, ◌≤◌, ◌<◌, Bool, List, [], ◌∷◌, Option, Some, None, inl, inr, refl, sym, ap, subst, ◌∙◌, arith}
use Rattle.model.specs.Cluster.{Id, Kind, In, Listed, RestorationState, CloneState}
use Rattle.model.specs.Lists.{numbered_as}
use Rattle.model.specs.Entering.{Entering, IsAfterOwn, states_of}
use Rattle.law_invariants.proofs.Finding.{not_same, same_self}
use Rattle.law_once.specs.Told.{SnapshotTold, RestorationTold, CloneTold, CloneStates}

pub states_passed : (x : Entering) (es : List Entering) (id : Id) → x.operation ≢ id → states_of id (x ∷ es) ≡ states_of id es
states_passed x es id apart = let b = not_same x.operation id apart in rw b refl

pub states_entered : (x : Entering) (es : List Entering) → states_of x.operation (x ∷ es) ≡ x.state ∷ states_of x.operation es
states_entered x es = let b = same_self x.operation in rw b refl

-- an operation that is not drawn yet entered none
pub states_none : (es : List Entering) (id : Id) → ((e : Entering) → In e es → e.operation ≢ id) → states_of id es ≡ []
states_none [] id apart = refl
states_none (x ∷ es) id apart = states_passed x es id (apart x (inl refl)) ∙ states_none es id (λ e isin. apart e (inr isin))

pub new_apart : (kind : Kind) (d number : ℕ) (es : List Entering) (drawn : Kind → ℕ) → ((e : Entering) → In e es → e.operation.number ≤ drawn e.operation.kind) → drawn kind < number → (e : Entering) → In e es → e.operation ≢ numbered_as kind number
new_apart kind d number es drawn known more e isin is =
    let l : e.operation.number ≤ drawn e.operation.kind = known e isin in
    let k : (numbered_as kind number).number ≤ drawn (numbered_as kind number).kind = subst (λ i. i.number ≤ drawn i.kind) is l in omega arith

pub other_kind : (a b : Id) (kind other : Kind) → a.kind ≡ kind → b.kind ≡ other → kind ≢ other → a ≢ b
other_kind a b kind other is its apart e = apart (sym is ∙ ap (λ i. i.kind) e ∙ its)

-- What is told goes on, as another record enters a state

pub after_own_on : (o : Option ℕ) (x : Entering) (es : List Entering) (id : Id) → IsAfterOwn es id o → IsAfterOwn (x ∷ es) id o
after_own_on None x es id h = tt
after_own_on (Some point) x es id h = (h.0, (inr h.1.0, h.1.1))

pub snapshot_passed : (x : Entering) (es : List Entering) (id : Id) (complete : Bool) (at : ℕ) → x.operation ≢ id → SnapshotTold es id complete at → SnapshotTold (x ∷ es) id complete at
snapshot_passed x es id complete at apart h = record { kind_is = h.kind_is; states = states_passed x es id apart ∙ h.states; taken = inr h.taken }

pub restoration_passed : (x : Entering) (es : List Entering) (id : Id) (state : RestorationState) → x.operation ≢ id → RestorationTold es id state → RestorationTold (x ∷ es) id state
restoration_passed x es id state apart h = record { kind_is = h.kind_is; states = states_passed x es id apart ∙ h.states; point = after_own_on _ x es id h.point }

pub clone_passed : (x : Entering) (es : List Entering) (id : Id) (state : CloneState) (listed : List Listed) → x.operation ≢ id → CloneTold es id state listed → CloneTold (x ∷ es) id state listed
clone_passed x es id state listed apart h = record {
  kind_is = h.kind_is;
  states = subst (λ states. CloneStates states state) (sym (states_passed x es id apart)) h.states;
  copied = λ at is. inr (h.copied at is);
  released = λ l cutoff isin is. inr (h.released l cutoff isin is);
}
