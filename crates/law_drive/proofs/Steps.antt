-- What a send, a process and an ack too early leave of the events for a slot.
use Rattle.std.proofs.Common.{ℕ, ◌≡◌, ◌≢◌, ◌≤◌, ◌+◌, List, [], ◌∷◌, ◌++◌, Bool, true, false, cond, ◌&&◌, ◌||◌, Option, Some, None, inl, refl, sym, ap, subst, ◌∙◌, arith, not, eqb, eqb-true, le_refl}
use Rattle.std.specs.List.{filter, list_any}
use Rattle.std.proofs.lemmas.Bool.{cond_both, true≢false}
use Rattle.row_values.specs.Ids.{Id, same}
use Rattle.model.specs.Tablets.{Command, Mark, BodyKind, kind_of, is_done, holds_command, same_body}
use Rattle.model.specs.Records.{Listed, Sent, is_sent, unsent, unsent_at}
use Rattle.model.specs.Coordination.{command_for}
use Rattle.law_store.proofs.Keys.{either_way}
use Rattle.law_invariants.proofs.Finding.{both_pass, first_fails, same_equal, same_self, passes_both, not_same, body_equal, body_self, in_second, not_passing}
use Rattle.law_invariants.proofs.Unneeded.{any_in}
use Rattle.law_invariants.proofs.DoneMarks.{command_held, done_now, done_beside}
use Rattle.law_drive.specs.Counting.{steps_left, slot_left}

-- Lists

pub any_added : {A : Type 0} (test : A → Bool) (xs : List A) (y : A) → test y ≡ false → list_any test (xs ++ y ∷ []) ≡ list_any test xs
any_added test [] y off = ap (λ b. b || false) off
any_added test (x ∷ xs) y off = ap (λ b. test x || b) (any_added test xs y off)

pub any_kept : {A : Type 0} (test keep : A → Bool) (xs : List A) → ((a : A) → test a ≡ true → keep a ≡ true) → list_any test (filter keep xs) ≡ list_any test xs
any_kept test keep [] each = refl
any_kept test keep (x ∷ xs) each =
    let rest = any_kept test keep xs each in
    cond_both (keep x) (x ∷ filter keep xs) (filter keep xs) (λ ys. list_any test ys ≡ (test x || list_any test xs))
    (λ _. ap (λ b. test x || b) rest)
    (λ dropped. let off : test x ≡ false = not_passing (test x) (λ passes. true≢false (sym (each x passes) ∙ dropped)) in rest ∙ ap (λ b. b || list_any test xs) (sym off))

pub none_kept : {A : Type 0} (test : A → Bool) (xs : List A) → list_any test (filter (λ a. not (test a)) xs) ≡ false
none_kept test [] = refl
none_kept test (x ∷ xs) =
    let rest = none_kept test xs in
    cond_both (not (test x)) (x ∷ filter (λ a. not (test a)) xs) (filter (λ a. not (test a)) xs) (λ ys. list_any test ys ≡ false)
    (λ keeps. ap (λ b. b || list_any test (filter (λ a. not (test a)) xs)) (off (test x) keeps) ∙ rest)
    (λ _. rest)
  where
    off : (b : Bool) → not b ≡ true → b ≡ false
    off false e = refl
    off true e = absurd (true≢false (sym e))

-- Sent marks

abbrev pub sent_with : List Sent → Id → ℕ → List Sent
sent_with sent operation slot = cond (is_sent sent operation slot) sent (sent ++ record { operation = operation; slot = slot } ∷ [])

pub eqb_self : (n : ℕ) → eqb n n ≡ true
eqb_self n = grind arith

pub sent_now : (sent : List Sent) (operation : Id) (slot : ℕ) → is_sent (sent_with sent operation slot) operation slot ≡ true
sent_now sent operation slot = cond_both (is_sent sent operation slot) sent (sent ++ record { operation = operation; slot = slot } ∷ []) (λ ms. is_sent ms operation slot ≡ true)
    (λ e. e)
    (λ _. any_in {A = Sent} (λ s. same s.operation operation && eqb s.slot slot) (sent ++ record { operation = operation; slot = slot } ∷ []) (record { operation = operation; slot = slot })
    (in_second sent (record { operation = operation; slot = slot } ∷ []) _ (inl refl)) (passes_both _ _ (same_self operation) (eqb_self slot)))

pub sent_beside : (sent : List Sent) (operation id : Id) (slot i : ℕ) → (same operation id && eqb slot i) ≡ false → is_sent (sent_with sent operation slot) id i ≡ is_sent sent id i
sent_beside sent operation id slot i off = cond_both (is_sent sent operation slot) sent (sent ++ record { operation = operation; slot = slot } ∷ []) (λ ms. is_sent ms id i ≡ is_sent sent id i)
    (λ _. refl)
    (λ _. any_added {A = Sent} (λ s. same s.operation id && eqb s.slot i) sent (record { operation = operation; slot = slot }) off)

pub unsent_beside : (sent : List Sent) (operation id : Id) (slot i : ℕ) → (same operation id && eqb slot i) ≡ false → is_sent (unsent_at operation slot sent) id i ≡ is_sent sent id i
unsent_beside sent operation id slot i off = any_kept {A = Sent} (λ s. same s.operation id && eqb s.slot i) (λ s. not (same s.operation operation && eqb s.slot slot)) sent
    (λ s passes. let b = both_pass (same s.operation id) (eqb s.slot i) passes in
    let id_is = same_equal s.operation id b.0 in
    let slot_is = eqb-true s.slot i b.1 in
    let apart : (same s.operation operation && eqb s.slot slot) ≡ false = not_passing _ (λ both. let c = both_pass (same s.operation operation) (eqb s.slot slot) both in
    let there : (same operation id && eqb slot i) ≡ true = passes_both _ _ (subst (λ k. same operation k ≡ true) (sym (same_equal s.operation operation c.0) ∙ id_is) (same_self operation)) (subst (λ k. eqb slot k ≡ true) (sym (eqb-true s.slot slot c.1) ∙ slot_is) (eqb_self slot)) in
    true≢false (sym there ∙ off)) in
    ap not apart)

pub unsent_now : (sent : List Sent) (operation : Id) (slot : ℕ) → is_sent (unsent_at operation slot sent) operation slot ≡ false
unsent_now sent operation slot = none_kept {A = Sent} (λ s. same s.operation operation && eqb s.slot slot) sent

pub unsent_others : (sent : List Sent) (operation id : Id) (i : ℕ) → id ≢ operation → is_sent (unsent operation sent) id i ≡ is_sent sent id i
unsent_others sent operation id i apart = any_kept {A = Sent} (λ s. same s.operation id && eqb s.slot i) (λ s. not (same s.operation operation)) sent
    (λ s passes. let b = both_pass (same s.operation id) (eqb s.slot i) passes in
    ap not (not_same s.operation operation (λ is. apart (sym (same_equal s.operation id b.0) ∙ is))))

-- where nothing changed for a slot
pub slot_same : (sent new : List Sent) (inbox held : List Command) (done : List Mark) (id : Id) (i : ℕ) (found : Option Listed) → is_sent new id i ≡ is_sent sent id i
    → ((kind : BodyKind) → holds_command held id kind ≡ holds_command inbox id kind) → slot_left new held done id i found ≤ slot_left sent inbox done id i found
slot_same sent new inbox held done id i None e h = le_refl 0
slot_same sent new inbox held done id i (Some l) e h =
    subst (λ n. n ≤ steps_left (is_sent sent id i) (holds_command inbox id (kind_of l.body)) (is_done done id (kind_of l.body)))
    (sym (ap (λ b. steps_left b (holds_command held id (kind_of l.body)) (is_done done id (kind_of l.body))) e ∙ ap (λ b. steps_left (is_sent sent id i) b (is_done done id (kind_of l.body))) (h (kind_of l.body)))) (le_refl _)

-- A send

abbrev pub with_offer : Command → List Command → List Mark → List Command
with_offer c inbox done = cond (is_done done c.operation (kind_of c.body) || holds_command inbox c.operation (kind_of c.body)) inbox (inbox ++ c ∷ [])

pub offer_beside : (c : Command) (inbox : List Command) (done : List Mark) (id : Id) (kind : BodyKind) → c.operation ≢ id → holds_command (with_offer c inbox done) id kind ≡ holds_command inbox id kind
offer_beside c inbox done id kind apart = cond_both (is_done done c.operation (kind_of c.body) || holds_command inbox c.operation (kind_of c.body)) inbox (inbox ++ c ∷ []) (λ cs. holds_command cs id kind ≡ holds_command inbox id kind)
    (λ _. refl)
    (λ _. any_added {A = Command} (λ d. same d.operation id && same_body (kind_of d.body) kind) inbox c (first_fails _ _ (not_same c.operation id apart)))

offer_now : (c : Command) (inbox : List Command) (done : List Mark) → is_done done c.operation (kind_of c.body) ≡ false → holds_command (with_offer c inbox done) c.operation (kind_of c.body) ≡ true
offer_now c inbox done undone = cond_both (is_done done c.operation (kind_of c.body) || holds_command inbox c.operation (kind_of c.body)) inbox (inbox ++ c ∷ []) (λ cs. holds_command cs c.operation (kind_of c.body) ≡ true)
    (λ e. ap (λ b. b || holds_command inbox c.operation (kind_of c.body)) (sym undone) ∙ e)
    (λ _. command_held (inbox ++ c ∷ []) c c.operation (kind_of c.body) (in_second inbox (c ∷ []) c (inl refl)) refl refl)

steps_sent : (h now d : Bool) → (d ≡ false → now ≡ true) → steps_left true now d + 1 ≤ steps_left false h d
steps_sent h now true held = omega arith
steps_sent h true false held = omega arith
steps_sent h false false held = absurd (true≢false (sym (held refl)))

pub slot_sent : (sent : List Sent) (inbox : List Command) (done : List Mark) (operation : Id) (slot : ℕ) (l : Listed) → is_sent sent operation slot ≡ false
    → slot_left (sent_with sent operation slot) (with_offer (command_for operation l) inbox done) done operation slot (Some l) + 1 ≤ slot_left sent inbox done operation slot (Some l)
slot_sent sent inbox done operation slot l unsent_ =
    let k = kind_of l.body in
    let c = command_for operation l in
    let held = holds_command (with_offer c inbox done) operation k in
    subst (λ b. steps_left b held (is_done done operation k) + 1 ≤ steps_left (is_sent sent operation slot) (holds_command inbox operation k) (is_done done operation k)) (sym (sent_now sent operation slot))
    (subst (λ b. steps_left true held (is_done done operation k) + 1 ≤ steps_left b (holds_command inbox operation k) (is_done done operation k)) (sym unsent_)
    (steps_sent (holds_command inbox operation k) held (is_done done operation k) (λ undone. offer_now c inbox done undone)))

-- An ack too early

pub slot_unsent : (sent : List Sent) (done : List Mark) (operation : Id) (slot : ℕ) (l : Listed) → is_sent sent operation slot ≡ true → is_done done operation (kind_of l.body) ≡ false
    → slot_left (unsent_at operation slot sent) [] done operation slot (Some l) + 1 ≤ slot_left sent [] done operation slot (Some l)
slot_unsent sent done operation slot l was_sent undone =
    let d = is_done done operation (kind_of l.body) in
    subst (λ b. steps_left b false d + 1 ≤ steps_left (is_sent sent operation slot) false d) (sym (unsent_now sent operation slot))
    (subst (λ b. steps_left false false d + 1 ≤ steps_left b false d) (sym was_sent)
    (subst (λ e. steps_left false false e + 1 ≤ steps_left true false e) (sym undone) (omega arith)))

pub less_most : (a b : ℕ) → a + 1 ≤ b → a ≤ b
less_most a b le = omega (arith, le)

-- A process

abbrev pub mark_of : Command → Mark
mark_of c = record { operation = c.operation; kind = kind_of c.body }

steps_done : (s h d : Bool) → d ≡ true → steps_left s h d + 1 ≤ steps_left s true false
steps_done true h true e = omega arith
steps_done false h true e = omega arith
steps_done s h false e = absurd (true≢false (sym e))

-- what is done first
pub slot_done : (sent : List Sent) (c : Command) (cs : List Command) (done : List Mark) (slot : ℕ) (l : Listed) → is_done done c.operation (kind_of c.body) ≡ false → kind_of l.body ≡ kind_of c.body
    → slot_left sent cs (done ++ mark_of c ∷ []) c.operation slot (Some l) + 1 ≤ slot_left sent (c ∷ cs) done c.operation slot (Some l)
slot_done sent c cs done slot l fresh is =
    subst (λ k. steps_left (is_sent sent c.operation slot) (holds_command cs c.operation k) (is_done (done ++ mark_of c ∷ []) c.operation k) + 1 ≤ steps_left (is_sent sent c.operation slot) (holds_command (c ∷ cs) c.operation k) (is_done done c.operation k)) (sym is)
    (let k = kind_of c.body in
    let s = is_sent sent c.operation slot in
    let after = holds_command cs c.operation k in
    let marked = is_done (done ++ mark_of c ∷ []) c.operation k in
    let held : holds_command (c ∷ cs) c.operation k ≡ true = command_held (c ∷ cs) c c.operation k (inl refl) refl refl in
    subst (λ h. steps_left s after marked + 1 ≤ steps_left s h (is_done done c.operation k)) (sym held)
    (subst (λ d. steps_left s after marked + 1 ≤ steps_left s true d) (sym fresh) (steps_done s after marked (done_now done c.operation k))))

-- and for all others
pub slot_processed : (sent : List Sent) (c : Command) (cs : List Command) (done : List Mark) (id : Id) (slot : ℕ) (found : Option Listed) → is_done done c.operation (kind_of c.body) ≡ false
    → slot_left sent cs (done ++ mark_of c ∷ []) id slot found ≤ slot_left sent (c ∷ cs) done id slot found
slot_processed sent c cs done id slot None fresh = le_refl 0
slot_processed sent c cs done id slot (Some l) fresh = either_way (same c.operation id && same_body (kind_of c.body) (kind_of l.body))
    (λ e. let b = both_pass (same c.operation id) (same_body (kind_of c.body) (kind_of l.body)) e in
    subst (λ k. slot_left sent cs (done ++ mark_of c ∷ []) k slot (Some l) ≤ slot_left sent (c ∷ cs) done k slot (Some l)) (same_equal c.operation id b.0)
    (let less = slot_done sent c cs done slot l fresh (sym (body_equal (kind_of c.body) (kind_of l.body) b.1)) in less_most _ _ less))
    (λ e. let k = kind_of l.body in
    let s = is_sent sent id slot in
    let beside : is_done (done ++ mark_of c ∷ []) id k ≡ is_done done id k = done_beside done (mark_of c) id k
    (λ o kd. true≢false (sym (passes_both (same c.operation id) (same_body (kind_of c.body) k) (subst (λ j. same c.operation j ≡ true) o (same_self c.operation)) (subst (λ j. same_body (kind_of c.body) j ≡ true) kd (body_self (kind_of c.body)))) ∙ e)) in
    subst (λ d. steps_left s (holds_command cs id k) d ≤ steps_left s (holds_command (c ∷ cs) id k) (is_done done id k)) (sym beside)
    (subst (λ b. steps_left s (holds_command cs id k) (is_done done id k) ≤ steps_left s (b || holds_command cs id k) (is_done done id k)) (sym e) (le_refl _)))
