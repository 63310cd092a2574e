-- The slots of what stays, with one listed tablet more in front.
use Rattle.std.proofs.Common.{ℕ, suc, ◌≡◌, ◌≤◌, ◌<◌, ◌-◌, ◌&&◌, Bool, true, false, List, ◌∷◌, drop, length, map, cond, refl, sym, ap, ◌∙◌, arith}
use Rattle.std.proofs.Math.Seq.{drop-cons}
use Rattle.std.proofs.Math.ListN.{get_or}
use Rattle.std.specs.Prelude.{filter}
use Rattle.row_values.specs.Ids.{Id}
use Rattle.row_values.specs.Slots.{rising}
use Rattle.model.specs.Records.{Listed}
use Rattle.model.specs.Parts.{Master}
use Rattle.model.specs.Cleanup.{slots_where, is_present}
use Rattle.master_cleanup.specs.Staying.{put_if}

more_if : (b : Bool) (l : Listed) (ls : List Listed)
    → put_if b l.slot (rising (map {A = Listed} (λ l. l.slot) ls)) ≡ rising (map {A = Listed} (λ l. l.slot) (cond b (l ∷ ls) ls))
more_if true l ls = refl
more_if false l ls = refl

pub one_more : (test : Id → Bool) (m : Master) (ls : List Listed) (upto : ℕ) (l : Listed)
    → l ≡ get_or ls (upto - 1) l → 0 < upto → upto ≤ length ls
    → put_if (is_present m l.tablet && test l.tablet) l.slot (slots_where test m (drop upto ls)) ≡ slots_where test m (drop (upto - 1) ls)
one_more test m ls upto l is some within =
    let at = upto - 1 in
    let stays = is_present m l.tablet && test l.tablet in
    let next : suc at ≡ upto = omega (arith, some) in
    let d : drop at ls ≡ l ∷ drop (suc at) ls = drop-cons ls at l (omega (arith, some, within)) ∙ ap (λ (x : Listed). x ∷ drop (suc at) ls) (sym is) in
    ap (λ k. put_if stays l.slot (slots_where test m (drop k ls))) (sym next)
    ∙ more_if stays l (filter (λ (k : Listed). is_present m k.tablet && test k.tablet) (drop (suc at) ls))
    ∙ sym (ap (slots_where test m) d)
