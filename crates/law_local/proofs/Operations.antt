-- What a coordinator does reads the master, or the inbox and the marks of the tablets that it names; a prune reads the master.
use Rattle.std.proofs.Common.{ℕ, ◌≡◌, ap, ◌∙◌}
use Rattle.row_values.specs.Ids.{Id}
use Rattle.model.specs.Parts.{Parts}
use Rattle.model.specs.Coordination.{pending, sending, processing, acknowledging, send, process, ack}
use Rattle.model.specs.Moves.{advancing, progress_of, advance}
use Rattle.model.specs.Cleanup.{prune}

pub send_same : (operation : Id) (slot n : ℕ) (p q : Parts) → p.master ≡ q.master → send operation slot n p ≡ send operation slot n q
unfolding send
send_same operation slot n p q e = ap (λ m. sending (pending m operation slot) operation slot) e

pub process_same : (slot other n : ℕ) (p q : Parts) → p.tablet slot ≡ q.tablet slot → p.tablet other ≡ q.tablet other → process slot other n p ≡ process slot other n q
unfolding process
process_same slot other n p q e source =
    ap (λ t. processing t.inbox slot other (p.tablet other)) e ∙ ap (λ t. processing (q.tablet slot).inbox slot other t) source

pub ack_same : (operation : Id) (slot n : ℕ) (p q : Parts) → p.master ≡ q.master → p.tablet slot ≡ q.tablet slot → ack operation slot n p ≡ ack operation slot n q
unfolding ack
ack_same operation slot n p q e same =
    ap (λ m. acknowledging (pending m operation slot) operation slot (p.tablet slot)) e ∙ ap (λ t. acknowledging (pending q.master operation slot) operation slot t) same

pub advance_same : (operation : Id) (n : ℕ) (p q : Parts) → p.master ≡ q.master → advance operation n p ≡ advance operation n q
unfolding advance
advance_same operation n p q e = ap (λ m. advancing (progress_of operation.kind m operation) operation) e

pub prune_same : (n : ℕ) (p q : Parts) → p.master ≡ q.master → prune n p ≡ prune n q
unfolding prune
prune_same n p q e = ap (λ m. prune n (record { master = m; tablet = p.tablet })) e
