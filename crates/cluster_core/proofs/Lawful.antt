-- The held master is what a legal history leaves.
use Rattle.std.proofs.Common.{◌≡◌, ℕ, List, [], map, refl, sym, ap, subst, arith, ◌∙◌, Option}
use Rattle.row_values.specs.Slots.{has}
use Rattle.step_table.proofs.Lists.{either_way}
use Rattle.model.specs.Acts.{Event}
use Rattle.model.specs.Parts.{Parts, empty_master}
use Rattle.model.specs.Entries.{touches, slots_of}
use Rattle.model.specs.History.{replay}
use Rattle.machine_laws.specs.Laid.{lay, master_in, kept_in}
use Rattle.machine_laws.specs.Core.{Fits}
use Rattle.machine_laws.proofs.Lawful.{held_replayed}
use Rattle.machine_laws.proofs.Slots.{has_rising}
use Rattle.machine_laws.proofs.Stamps.{lay_meant}
use Rattle.master_part.specs.Acts.{IsLawful}
use Rattle.master_laws.proofs.Lawful.{is_lawful}
use Rattle.cluster_core.specs.Coding.{coding}
use Rattle.cluster_core.specs.Held.{Part}
use Rattle.cluster_core.specs.Tellings.{meaning}
use Rattle.cluster_core.proofs.Laying.{at_none}

none_replayed : (replay 0 []).master ≡ empty_master 0
unfolding replay
none_replayed = refl

empty_lawful : IsLawful (empty_master 0)
empty_lawful = subst IsLawful none_replayed (is_lawful 0 [] tt (omega arith))

pub held_lawful : (e : Event) (ks : List ℕ) (ps : List Part) → ks ≡ touches e.act → Fits (map meaning ps) e → IsLawful (lay ks ps).master
held_lawful e ks ps same fits =
    let js = touches e.act in
    let legal = fits.legal in
    let is : lay ks ps ≡ lay js (map meaning ps) = ap (λ (is : List ℕ). lay is ps) same ∙ sym (lay_meant coding js ps) in
    subst (λ (p : Parts). IsLawful p.master) (sym is) (either_way (has (slots_of e.act) 0)
    (λ t. subst IsLawful (sym ((held_replayed e (map meaning ps) fits).master t)) (is_lawful legal.slots legal.history legal.past.legal legal.few))
    (λ f. subst IsLawful (sym (ap (λ (p : Option Part). master_in (kept_in p)) (at_none js (map meaning ps) 0 (has_rising (slots_of e.act) 0 ∙ f)))) empty_lawful))
