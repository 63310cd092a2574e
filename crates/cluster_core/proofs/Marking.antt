-- Whether a tablet has the mark of the command that is pending.
use Rattle.std.proofs.Common.{◌≡◌, List, false, Option, Some, None, option_map, refl, ap}
use Rattle.row_values.specs.Ids.{Id}
use Rattle.model.specs.Tablets.{Mark, kind_of, is_done}
use Rattle.model.specs.Records.{Listed}
use Rattle.master_part.specs.Decisions.{is_marked}
use Rattle.cluster_core.proofs.Laying.{some_is}

abbrev mark_for : Id → Listed → Mark
mark_for operation l = record { operation = operation; kind = kind_of l.body }

pub marked : (done : List Mark) (operation : Id) (p : Option Listed) (mark : Mark) → Some mark ≡ option_map (mark_for operation) p → is_done done mark.operation mark.kind ≡ is_marked done operation p
marked done operation None mark is = cc
marked done operation (Some l) mark is = ap (λ (m : Mark). is_done done m.operation m.kind) (some_is is)

pub unmarked : (done : List Mark) (operation : Id) (p : Option Listed) → None ≡ option_map (mark_for operation) p → false ≡ is_marked done operation p
unmarked done operation None is = refl
unmarked done operation (Some l) is = cc
