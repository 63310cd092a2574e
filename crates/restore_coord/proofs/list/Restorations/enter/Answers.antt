use Rattle.std.proofs.Common.{◌≡◌, false, Some, slice_get, slice_set, List, sym, ap, subst, ◌∙◌}
use Rattle.std.specs.List.{list_any}
use Rattle.row_values.specs.Ids.{same}
use Rattle.model.specs.Records.{RestorationRecord}
use Rattle.restore_coord.specs.Seen.{state_of}
use Rattle.restore_coord.specs.View.{RestorationsView, entered}
use Rattle.restore_coord.proofs.Entering.{at_place, entered_at, none_entered}
use Rattle.restore_coord.proofs.list.Restorations.enter.Goals as goal

pub returns-in_default-clause-restorations : goal.returns-in_default-clause-restorations
returns-in_default-clause-restorations c =
    let e = c.as_slice.ensures.value ∙ ap (λ (v : RestorationsView). v.restorations) c.self.view_is in
    sym (none_entered c.args.id.now (state_of c.args.state) c.args.listed c.args.self.now.restorations
    (subst (λ (rs : List RestorationRecord). list_any (λ r. same r.id c.args.id.now) rs ≡ false) e c.in_default.ensures.none))

pub returns-clause-restorations : goal.returns-clause-restorations
returns-clause-restorations c =
    let view : c.self.inside.records.items ≡ c.args.self.now.restorations = ap (λ (v : RestorationsView). v.restorations) c.self.view_is in
    let state = state_of c.args.state in
    let listed = c.args.listed in
    let p = c.in-Some.place in
    let found = c.in-Some.ensures.found in
    let there = subst (λ (rs : List RestorationRecord). slice_get rs p ≡ Some found.0) c.as_slice.ensures.value found.1.0 in
    let r = c.index_mut.result.now in
    let is : r ≡ found.0 = c.index_mut.ensures.value ∙ at_place c.self.inside.records.items p found.0 r there in
    ap (λ (x : RestorationRecord). slice_set c.self.inside.records.items p x) (c.enter_record.ensures.entered ∙ ap (entered state listed) is)
    ∙ ap (λ (rs : List RestorationRecord). slice_set rs p (entered state listed found.0)) view
    ∙ entered_at c.args.id.now state listed c.args.self.now.restorations p found.0 c.requires.once
    (subst (λ (rs : List RestorationRecord). slice_get rs p ≡ Some found.0) view there) found.1.1
