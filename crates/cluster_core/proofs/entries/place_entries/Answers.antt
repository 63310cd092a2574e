use Rattle.std.proofs.Common.{◌+◌, ◌-◌, ◌≤◌, ◌∙◌, drop, length, map, subst, sym, ap, Some}
use Rattle.std.specs.Option.{option_copied}
use Rattle.std.proofs.lemmas.List.{map-set, length-set}
use Rattle.step_table.specs.Lists.{Every}
use Rattle.step_line.specs.Numbered.{placed}
use Rattle.cluster_core.proofs.Numbering.{item_next}
use Rattle.cluster_core.proofs.entries.place_entries.Goals as goal

pub loop-entry-preserved : goal.loop-entry-preserved
loop-entry-preserved c =
    let items = c.loop-entry.places.items in
    let next = item_next c.args.log.now c.loop-entry.entry-index c.entry-item.result c.loop-entry-test.true c.entry-item.is in
    record {
      placed =
          ap (placed (drop (c.loop-entry.entry-index + 1) c.args.log.now)) (map-set option_copied items (c.entry-item.result.number - 1) (Some _))
          ∙ sym (ap (λ es. placed es (map option_copied items)) next)
          ∙ c.loop-entry.invariant.placed;
      within =
          subst (λ n. Every (λ e. (1 ≤ e.number) × (e.number ≤ n)) (drop (c.loop-entry.entry-index + 1) c.args.log.now)) (sym (length-set items (c.entry-item.result.number - 1) _))
          (subst (Every (λ e. (1 ≤ e.number) × (e.number ≤ length items))) next c.loop-entry.invariant.within).1;
    }
