-- Where a command that a tablet was given comes from, and that the record of its operation entered the state that gives it.
use Rattle.std.proofs.Common.{◌≡◌, ℕ, ◌<◌, lt_trans, Bool, true, false, List, [], ◌∷◌, ◌++◌, ◌||◌, ◌⊎◌, inl, inr, refl, sym, ap, subst, ◌∙◌, arith, if◌then◌else◌}
use Rattle.std.proofs.lemmas.Bool.{true≢false}
use Rattle.model.specs.Cluster.{Id, same, In, KeyedRow, Listed, RestorationRecord, RestorationState, Fencing, Restoring, Releasing, Restored, CloneRecord, CloneState, Accepted, CloneSnapshot, Copying, CloneReleasing, CloneComplete, State, IsFencing, IsRestoring, IsReleasing, IsCopying, is_restored, is_cloned, Master}
use Rattle.model.specs.Journal.{Change}
use Rattle.model.specs.Tablets.{Tablet, TabletAct, Make, Child, Offer, Process, Clear, Restart, Body, Fence, RestoreFrom, Hide, BodyKind, Command, Mark, kind_of, holds_command, is_done, effect, obeyed, processed}
use Rattle.model.specs.Stands.{was_given}
use Rattle.model.specs.Entering.{EnteredBefore, Entering, state_giving, states_of, states_to}
use Rattle.law_store.proofs.Keys.{either_way}
use Rattle.law_invariants.specs.Operations.{CloneStateGood, IsAfterSwitch, OperationsGood, RestorationStateGood}
use Rattle.law_invariants.proofs.Finding.{either_is, in_append, in_second, same_equal}
use Rattle.law_invariants.proofs.Hearing.{effect_clock}
use Rattle.law_invariants.proofs.DoneMarks.{command_held, command_there, done_either}
use Rattle.law_invariants.proofs.Commanded.{IsPending, BySnapshot, ByRestoration, ByClone, none_in}
use Rattle.law_once.specs.Told.{AllTold, CloneStates, enters}

-- The tablet

-- a tablet was given a command before, or is offered it now
abbrev pub GivenFrom : TabletAct → Tablet → Id → BodyKind → Type 0
GivenFrom a t operation kind = (was_given t operation kind ≡ true) ⊎ ((c : Command) × ((a ≡ Offer c) × ((c.operation ≡ operation) × (kind_of c.body ≡ kind))))

given : (a b : Bool) → (a ≡ true) ⊎ (b ≡ true) → (a || b) ≡ true
given true b h = refl
given false b (inl e) = absurd (true≢false (sym e))
given false b (inr e) = e

pub done_of_body : (b : Body) (operation tablet : Id) (rows : List KeyedRow) (t : Tablet) → (obeyed b operation tablet rows t).done ≡ t.done
done_of_body Fence operation tablet rows t = refl
done_of_body _ operation tablet rows t = refl

processed_from : (inbox : List Command) (rows : List KeyedRow) (n : ℕ) (t : Tablet) (operation : Id) (kind : BodyKind) → t.inbox ≡ inbox → was_given (processed inbox rows n t) operation kind ≡ true → was_given t operation kind ≡ true
processed_from [] rows n t operation kind is e = e
processed_from (c ∷ cs) rows n t operation kind is e =
    let mark : Mark = record { operation = c.operation; kind = kind_of c.body } in
    let first : holds_command t.inbox operation kind ≡ holds_command (c ∷ cs) operation kind = ap (λ i. holds_command i operation kind) is in
    given (holds_command t.inbox operation kind) (is_done t.done operation kind)
    (either_is (holds_command cs operation kind) (is_done ((obeyed c.body c.operation c.tablet rows t).done ++ mark ∷ []) operation kind) e
    (λ waits. let k = command_there cs operation kind waits in inl (first ∙ command_held (c ∷ cs) k.0 operation kind (inr k.1.0) k.1.1.0 k.1.1.1))
    (λ did. elim (done_either t.done mark operation kind (subst (λ d. is_done (d ++ mark ∷ []) operation kind ≡ true) (done_of_body c.body c.operation c.tablet rows t) did)) [
      | inl old ↦ inr old
      | inr new ↦ inl (first ∙ command_held (c ∷ cs) c operation kind (inl refl) new.0 new.1)
    ]))

offered_from : (b : Bool) (c : Command) (t : Tablet) (operation : Id) (kind : BodyKind) → (holds_command (if b then t.inbox else t.inbox ++ c ∷ []) operation kind || is_done t.done operation kind) ≡ true → GivenFrom (Offer c) t operation kind
offered_from true c t operation kind e = inl e
offered_from false c t operation kind e = either_is (holds_command (t.inbox ++ c ∷ []) operation kind) (is_done t.done operation kind) e
    (λ waits.
    let k = command_there (t.inbox ++ c ∷ []) operation kind waits in
    elim (in_append t.inbox (c ∷ []) k.0 k.1.0) [
      | inl old ↦ inl (given _ _ (inl (command_held t.inbox k.0 operation kind old k.1.1.0 k.1.1.1)))
      | inr new ↦ (elim new [ inl is ↦ inr (c, (refl, (ap (λ d. d.operation) is ∙ k.1.1.0, ap (λ d. kind_of d.body) is ∙ k.1.1.1))) | inr none ↦ absurd none ])
    ])
    (λ did. inl (given _ _ (inr did)))

pub given_from : (a : TabletAct) (n : ℕ) (t : Tablet) (operation : Id) (kind : BodyKind) → was_given (effect a n t) operation kind ≡ true → GivenFrom a t operation kind
given_from (Make tablet table low high version) n t operation kind e = absurd (true≢false (sym e))
given_from (Child tablet table low high version versions cutoff) n t operation kind e = absurd (true≢false (sym e))
given_from (Offer c) n t operation kind e = offered_from (is_done t.done c.operation (kind_of c.body) || holds_command t.inbox c.operation (kind_of c.body)) c t operation kind e
given_from (Process rows) n t operation kind e = inl (processed_from t.inbox rows n t operation kind refl e)
given_from Clear n t operation kind e = absurd (true≢false (sym e))
given_from Restart n t operation kind e = inl (given _ _ (inr e))
given_from _ n t operation kind e = inl e

-- The record

-- a state that was entered was so at some stamp
entered_at : (es : List Entering) (id : Id) (state : State) (states : List State) → states_of id es ≡ state ∷ states → (at : ℕ) × In (enters id state at) es
entered_at [] id state states e = absurd (let q = e in grind arith)
entered_at (x ∷ es) id state states e = either_way (same x.operation id)
    (λ b.
    let q : x.state ∷ states_of id es ≡ state ∷ states = rw b at e in
    let is : x.state ≡ state = cc in
    (x.at, inl (ap (λ o. enters o x.state x.at) (same_equal x.operation id b) ∙ ap (λ s. enters id s x.at) is)))
    (λ b. let q : states_of id es ≡ state ∷ states = rw b at e in let rest = entered_at es id state states q in (rest.0, inr rest.1))

-- the state that gives a pending command was entered
abbrev pub GivenAt : List Entering → Id → BodyKind → Type 0
GivenAt es id kind = (at : ℕ) × In (enters id (state_giving kind) at) es

after_switch : (b : Body) (r : RestorationRecord) (point : ℕ) (serving : Id) → IsAfterSwitch r.to point serving b → state_giving (kind_of b) ≡ IsRestoring
after_switch (RestoreFrom snapshot to at version) r point serving h = refl
after_switch (Hide ended) r point serving h = refl
after_switch _ r point serving h = absurd h

by_restoration : (state : RestorationState) (m : Master) (changes : List Change) (es : List Entering) (r : RestorationRecord) (l : Listed) → RestorationStateGood state m changes r → In l r.listed → states_of r.id es ≡ states_to state → is_restored state ≡ false → GivenAt es r.id (kind_of l.body)
by_restoration Fencing m changes es r l h isin states open_ = subst (λ b. GivenAt es r.id (kind_of b)) (sym (h.bodies l isin)) (entered_at es r.id IsFencing _ states)
by_restoration (Restoring point serving) m changes es r l h isin states open_ =
    let e = entered_at es r.id IsRestoring _ states in (e.0, subst (λ s. In (enters r.id s e.0) es) (sym (after_switch l.body r point serving (h.bodies l isin))) e.1)
by_restoration (Releasing point serving) m changes es r l h isin states open_ = subst (λ b. GivenAt es r.id (kind_of b)) (sym (h.bodies l isin)) (entered_at es r.id IsReleasing _ states)
by_restoration (Restored point serving) m changes es r l h isin states open_ = absurd (true≢false open_)
by_restoration _ m changes es r l h isin states open_ = absurd (none_in r.listed l h.empty isin)

by_clone : (state : CloneState) (m : Master) (es : List Entering) (c : CloneRecord) (l : Listed) → CloneStateGood state m c → In l c.listed → CloneStates (states_of c.id es) state → is_cloned state ≡ false → GivenAt es c.id (kind_of l.body)
by_clone Accepted m es c l h isin states open_ = absurd (none_in c.listed l h isin)
by_clone (CloneSnapshot own) m es c l h isin states open_ = absurd (none_in c.listed l h.empty isin)
by_clone (Copying serving at) m es c l h isin (inl e) open_ = subst (λ b. GivenAt es c.id (kind_of b)) (sym (h.bodies l isin).body_is) (entered_at es c.id IsCopying _ e)
by_clone (Copying serving at) m es c l h isin (inr e) open_ = subst (λ b. GivenAt es c.id (kind_of b)) (sym (h.bodies l isin).body_is) (entered_at es c.id IsCopying _ e)
by_clone (CloneReleasing serving at) m es c l h isin (inl e) open_ = subst (λ b. GivenAt es c.id (kind_of b)) (sym (h.bodies l isin)) (entered_at es c.id IsReleasing _ e)
by_clone (CloneReleasing serving at) m es c l h isin (inr e) open_ = subst (λ b. GivenAt es c.id (kind_of b)) (sym (h.bodies l isin)) (entered_at es c.id IsReleasing _ e)
by_clone (CloneComplete serving at) m es c l h isin states open_ = absurd (true≢false open_)

pub pending_given : (m : Master) (changes : List Change) (es : List Entering) (operation : Id) (slot : ℕ) (l : Listed) → OperationsGood m changes → AllTold m es → IsPending m operation slot l → GivenAt es operation (kind_of l.body)
pending_given m changes es operation slot l ops h (BySnapshot k) =
    subst (λ id. GivenAt es id (kind_of l.body)) k.id_is (subst (λ b. GivenAt es k.snapshot.id (kind_of b)) (sym ((ops.snapshots k.snapshot k.kept).bodies l k.line.listed)) (k.snapshot.at, (h.snapshots k.snapshot k.kept).taken))
pending_given m changes es operation slot l ops h (ByRestoration k) =
    subst (λ id. GivenAt es id (kind_of l.body)) k.id_is (by_restoration k.restoration.state m changes es k.restoration l (ops.restorations k.restoration k.kept).in_state k.line.listed (h.restorations k.restoration k.kept).states k.unfinished)
pending_given m changes es operation slot l ops h (ByClone k) =
    subst (λ id. GivenAt es id (kind_of l.body)) k.id_is (by_clone k.clone.state m es k.clone l (ops.clones k.clone k.kept).in_state k.line.listed (h.clones k.clone k.kept).states k.unfinished)

-- Offers

-- a clock comes after the entry of the state that gives what the tablet was given
pub clock_after : (a : TabletAct) (n : ℕ) (t : Tablet) (m : Master) (es new : List Entering) (operation : Id) (kind : BodyKind) → t.clock < n → (was_given t operation kind ≡ true → EnteredBefore es operation kind t.clock)
    → ((c : Command) → a ≡ Offer c → EnteredBefore es c.operation (kind_of c.body) n) → was_given (effect a n t) operation kind ≡ true → EnteredBefore (new ++ es) operation kind (effect a n t).clock
clock_after a n t m es new operation kind less before offered e = elim (given_from a n t operation kind e) [
  | inl old ↦ (let h = before old in
      record { at = h.at; was_entered = in_second new es _ h.was_entered; below = subst (λ k. h.at < k) (sym (effect_clock a n t)) (lt_trans h.below less) })
  | inr new_ ↦ (let h : EnteredBefore es operation kind n = subst (λ k. EnteredBefore es operation k n) new_.1.1.1 (subst (λ id. EnteredBefore es id (kind_of new_.0.body) n) new_.1.1.0 (offered new_.0 new_.1.0)) in
      record { at = h.at; was_entered = in_second new es _ h.was_entered; below = subst (λ k. h.at < k) (sym (effect_clock a n t)) h.below })
]
