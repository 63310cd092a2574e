-- Marks of what a tablet did, and commands in its inbox.
use Rattle.std.proofs.Common.{◌≡◌, List, [], ◌∷◌, ◌++◌, true, false, ◌&&◌, ◌⊎◌, inl, inr, refl, sym, ap, ◌∙◌}
use Rattle.std.proofs.lemmas.Bool.{true≢false}
use Rattle.model.specs.Cluster.{Id, same, In}
use Rattle.model.specs.Tablets.{BodyKind, same_body, kind_of, Command, Mark, is_mark, is_done, holds_command}
use Rattle.law_store.proofs.Keys.{either_way}
use Rattle.law_invariants.proofs.Finding.{body_equal, body_self, either_is, both_pass, passes_both, same_equal, same_self}

-- a mark is that of its operation and kind
pub mark_is : (k : Mark) (operation : Id) (kind : BodyKind) → is_mark operation kind k ≡ true → (k.operation ≡ operation) × (k.kind ≡ kind)
mark_is k operation kind h = let b = both_pass (same k.operation operation) (same_body k.kind kind) h in (same_equal k.operation operation b.0, body_equal k.kind kind b.1)

mark_self : (operation : Id) (kind : BodyKind) → is_mark operation kind (record { operation = operation; kind = kind }) ≡ true
mark_self operation kind = passes_both (same operation operation) (same_body kind kind) (same_self operation) (body_self kind)

-- one more mark

pub done_still : (done : List Mark) (k : Mark) (operation : Id) (kind : BodyKind) → is_done done operation kind ≡ true → is_done (done ++ k ∷ []) operation kind ≡ true
done_still [] k operation kind e = absurd (true≢false (sym e))
done_still (d ∷ ds) k operation kind e = either_is (is_mark operation kind d) (is_done ds operation kind) e
    (λ h. rw h refl)
    (λ h. either_way (is_mark operation kind d) (λ b. rw b refl) (λ b. rw b (done_still ds k operation kind h)))

pub done_now : (done : List Mark) (operation : Id) (kind : BodyKind) → is_done (done ++ record { operation = operation; kind = kind } ∷ []) operation kind ≡ true
done_now [] operation kind = rw (mark_self operation kind) refl
done_now (d ∷ ds) operation kind = either_way (is_mark operation kind d) (λ b. rw b refl) (λ b. rw b (done_now ds operation kind))

pub done_either : (done : List Mark) (k : Mark) (operation : Id) (kind : BodyKind) → is_done (done ++ k ∷ []) operation kind ≡ true
    → (is_done done operation kind ≡ true) ⊎ ((k.operation ≡ operation) × (k.kind ≡ kind))
done_either [] k operation kind e = either_is (is_mark operation kind k) false e (λ h. inr (mark_is k operation kind h)) (λ h. absurd (true≢false (sym h)))
done_either (d ∷ ds) k operation kind e = either_is (is_mark operation kind d) (is_done (ds ++ k ∷ []) operation kind) e
    (λ h. inl (rw h refl))
    (λ h. elim (done_either ds k operation kind h) as (λ _. (is_done (d ∷ ds) operation kind ≡ true) ⊎ ((k.operation ≡ operation) × (k.kind ≡ kind))) [
      | inl old ↦ inl (either_way (is_mark operation kind d) (λ b. rw b refl) (λ b. rw b old))
      | inr new ↦ inr new
    ])

-- a mark of another kind changes nothing
pub done_beside : (done : List Mark) (k : Mark) (operation : Id) (kind : BodyKind) → (k.operation ≡ operation → k.kind ≡ kind → ⊥) → is_done (done ++ k ∷ []) operation kind ≡ is_done done operation kind
done_beside done k operation kind apart = either_way (is_done done operation kind)
    (λ e. done_still done k operation kind e ∙ sym e)
    (λ e. either_way (is_done (done ++ k ∷ []) operation kind)
    (λ f. absurd (elim (done_either done k operation kind f) as (λ _. ⊥) [ inl old ↦ true≢false (sym old ∙ e) | inr new ↦ apart new.0 new.1 ]))
    (λ f. f ∙ sym e))

-- members

pub mark_there : (marks : List Mark) (operation : Id) (kind : BodyKind) → is_done marks operation kind ≡ true → (k : Mark) × (In k marks × ((k.operation ≡ operation) × (k.kind ≡ kind)))
mark_there [] operation kind e = absurd (true≢false (sym e))
mark_there (k ∷ ks) operation kind e = either_is (is_mark operation kind k) (is_done ks operation kind) e
    (λ h. let b = mark_is k operation kind h in (k, (inl refl, (b.0, b.1))))
    (λ h. let r = mark_there ks operation kind h in (r.0, (inr r.1.0, r.1.1)))

pub command_there : (inbox : List Command) (operation : Id) (kind : BodyKind) → holds_command inbox operation kind ≡ true → (c : Command) × (In c inbox × ((c.operation ≡ operation) × (kind_of c.body ≡ kind)))
command_there [] operation kind e = absurd (true≢false (sym e))
command_there (c ∷ cs) operation kind e = either_is (same c.operation operation && same_body (kind_of c.body) kind) (holds_command cs operation kind) e
    (λ h. let b = both_pass (same c.operation operation) (same_body (kind_of c.body) kind) h in (c, (inl refl, (same_equal c.operation operation b.0, body_equal (kind_of c.body) kind b.1))))
    (λ h. let r = command_there cs operation kind h in (r.0, (inr r.1.0, r.1.1)))

-- a command in an inbox is held by it
pub command_held : (inbox : List Command) (c : Command) (operation : Id) (kind : BodyKind) → In c inbox → c.operation ≡ operation → kind_of c.body ≡ kind → holds_command inbox operation kind ≡ true
command_held [] c operation kind isin o k = absurd isin
command_held (d ∷ ds) c operation kind (inl e) o k =
    let one : same d.operation operation ≡ true = ap (λ q. same q operation) (ap (λ q. q.operation) e ∙ o) ∙ same_self operation in
    let two : same_body (kind_of d.body) kind ≡ true = ap (λ q. same_body q kind) (ap (λ q. kind_of q.body) e ∙ k) ∙ body_self kind in
    let both : (same d.operation operation && same_body (kind_of d.body) kind) ≡ true = passes_both _ _ one two in
    rw both refl
command_held (d ∷ ds) c operation kind (inr isin) o k =
    let rest = command_held ds c operation kind isin o k in
    either_way (same d.operation operation && same_body (kind_of d.body) kind) (λ b. rw b refl) (λ b. rw b rest)
