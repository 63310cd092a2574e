-- The slots of a plan: those of a table's tablets, and free ones.
use Rattle.std.proofs.Common.{ℕ, ◌≡◌, List, [], ◌∷◌, map, None, Bool, true, cond, ◌&&◌, ◌||◌, inl, inr, refl, ap, ◌∙◌, arith, eqb, ltb, eqb-true}
use Rattle.std.proofs.lemmas.Bool.{cond_both}
use Rattle.std.proofs.lemmas.Bool.Decides.{nat_tests}
use Rattle.model.specs.Cluster.{Id, same, In, is_open, Interval, Master}
use Rattle.row_values.specs.Slots.{has, put_slot, rising}
use Rattle.model.specs.Looks.{active_in}
use Rattle.law_store.proofs.Keys.{either_way}
use Rattle.law_invariants.proofs.Finding.{either_is, in_filter, filter_in, map_in, both_pass, passes_both, either_passes, same_equal}

pub has_in : (slots : List ℕ) (slot : ℕ) → In slot slots → has slots slot ≡ true
has_in [] slot isin = absurd isin
has_in (s ∷ slots) slot (inl e) = let k : eqb s slot ≡ true = grind (arith, nat_tests) in rw k refl
has_in (s ∷ slots) slot (inr isin) = let k = has_in slots slot isin in either_way (eqb s slot) (λ e. rw e refl) (λ e. rw e k)

pub has_put : (slots : List ℕ) (s slot : ℕ) → has (s ∷ slots) slot ≡ true → has (put_slot s slots) slot ≡ true
has_put [] s slot h = h
has_put (r ∷ slots) s slot h = cond_both (ltb s r) (s ∷ r ∷ slots) (cond (eqb r s) (r ∷ slots) (r ∷ put_slot s slots)) (λ l. has l slot ≡ true)
    (λ e. h)
    (λ e. cond_both (eqb r s) (r ∷ slots) (r ∷ put_slot s slots) (λ l. has l slot ≡ true)
    (λ is. either_is (eqb s slot) (eqb r slot || has slots slot) h
    (λ q. let k : eqb r slot ≡ true = ap (λ z. eqb z slot) (eqb-true r s is) ∙ q in rw k refl)
    (λ q. q))
    (λ is. either_is (eqb s slot) (eqb r slot || has slots slot) h
    (λ q. either_passes (eqb r slot) (has (put_slot s slots) slot) (has_put slots s slot (rw q refl)))
    (λ q. either_is (eqb r slot) (has slots slot) q
    (λ k. rw k refl)
    (λ k. either_passes (eqb r slot) (has (put_slot s slots) slot) (has_put slots s slot (either_passes (eqb s slot) (has slots slot) k))))))

pub has_rising : (slots : List ℕ) (slot : ℕ) → has slots slot ≡ true → has (rising slots) slot ≡ true
has_rising [] slot h = h
has_rising (s ∷ slots) slot h = has_put (rising slots) s slot (either_way (eqb s slot) (λ e. rw e refl) (λ e. let q : (eqb s slot || has slots slot) ≡ true = h in let k : has slots slot ≡ true = rw e at q in either_passes (eqb s slot) _ (has_rising slots slot k)))

pub in_has : (ss : List ℕ) (slot : ℕ) → has ss slot ≡ true → In slot ss
in_has [] slot h = cc
in_has (s ∷ ss) slot h = either_is (eqb s slot) (has ss slot) h (λ e. inl (eqb-true s slot e)) (λ e. inr (in_has ss slot e))

put_has : (slots : List ℕ) (s slot : ℕ) → has (put_slot s slots) slot ≡ true → has (s ∷ slots) slot ≡ true
put_has [] s slot h = h
put_has (r ∷ slots) s slot h = cond_both (ltb s r) (s ∷ r ∷ slots) (cond (eqb r s) (r ∷ slots) (r ∷ put_slot s slots)) (λ l. has l slot ≡ true → has (s ∷ r ∷ slots) slot ≡ true)
    (λ e k. k)
    (λ e. cond_both (eqb r s) (r ∷ slots) (r ∷ put_slot s slots) (λ l. has l slot ≡ true → has (s ∷ r ∷ slots) slot ≡ true)
    (λ is k. either_passes (eqb s slot) (eqb r slot || has slots slot) k)
    (λ is k. either_is (eqb r slot) (has (put_slot s slots) slot) k
    (λ q. either_passes (eqb s slot) (eqb r slot || has slots slot) (rw q refl))
    (λ q. either_is (eqb s slot) (has slots slot) (put_has slots s slot q)
    (λ b. rw b refl)
    (λ b. either_passes (eqb s slot) (eqb r slot || has slots slot) (either_passes (eqb r slot) (has slots slot) b)))))
    h

pub rising_has : (slots : List ℕ) (slot : ℕ) → has (rising slots) slot ≡ true → has slots slot ≡ true
rising_has [] slot h = h
rising_has (s ∷ slots) slot h = either_is (eqb s slot) (has (rising slots) slot) (put_has (rising slots) s slot h)
    (λ e. rw e refl)
    (λ e. either_passes (eqb s slot) (has slots slot) (rising_has slots slot e))

slot_in : (is : List Interval) (slot : ℕ) → In slot (map (λ j. j.slot) is) → (j : Interval) × (In j is × (j.slot ≡ slot))
slot_in [] slot isin = absurd isin
slot_in (i ∷ is) slot (inl e) = (i, (inl refl, e))
slot_in (i ∷ is) slot (inr isin) = let r = slot_in is slot isin in (r.0, (inr r.1.0, r.1.1))

-- each slot in the plan of what is done to a table is that of an interval
pub planned_active : (m : Master) (id : Id) (slot : ℕ) → has (rising (map (λ j. j.slot) (active_in m id))) slot ≡ true → (j : Interval) × (In j m.activity × ((j.slot ≡ slot) × (j.table ≡ id)))
planned_active m id slot planned =
    let slots = map (λ j. j.slot) (active_in m id) in
    let r = slot_in (active_in m id) slot (in_has slots slot (rising_has slots slot planned)) in
    let f = filter_in m.activity (λ j. is_open j.to && same j.table id) r.0 r.1.0 in
    (r.0, (f.0, (r.1.1, same_equal r.0.table id (both_pass (is_open r.0.to) (same r.0.table id) f.1).1)))

-- the slot of each active tablet of a table is in the plan of what is done to the table
pub active_planned : (m : Master) (id : Id) (i : Interval) → In i m.activity → i.to ≡ None → same i.table id ≡ true → has (rising (map (λ j. j.slot) (active_in m id))) i.slot ≡ true
active_planned m id i isin opened is =
    let test : Interval → Bool = λ j. is_open j.to && same j.table id in
    let passes : test i ≡ true = passes_both (is_open i.to) (same i.table id) (ap is_open opened) is in
    has_rising (map (λ j. j.slot) (active_in m id)) i.slot (has_in (map (λ j. j.slot) (active_in m id)) i.slot (map_in (λ j. j.slot) (active_in m id) i (in_filter m.activity test i isin passes)))
