-- What is to be done for the records of several kinds.
use Rattle.std.proofs.Common.{◌≡◌, refl, List, [], ◌∷◌, ◌++◌, Option, Some, None, ◌∙◌, ap, sym}
use Rattle.model.specs.Cluster.{option_or}
use Rattle.model.specs.Records.{Sent, first_unacked}
use Rattle.model.specs.Acts.{WorkItem}
use Rattle.model.specs.Moves.{Progress}
use Rattle.model.specs.Work.{work_for, first_work}

or_or : (a b c : Option WorkItem) → option_or a (option_or b c) ≡ option_or (option_or a b) c
or_or None b c = refl
or_or (Some x) b c = refl

pub work_of_more : (xs ys : List Progress) (sent : List Sent) → first_work (xs ++ ys) sent ≡ option_or (first_work xs sent) (first_work ys sent)
work_of_more [] ys sent = refl
work_of_more (p ∷ ps) ys sent =
    ap (option_or (work_for (first_unacked p.listed) p.awaited p.id sent)) (work_of_more ps ys sent)
    ∙ or_or (work_for (first_unacked p.listed) p.awaited p.id sent) (first_work ps sent) (first_work ys sent)

pub work_of_three : (xs ys zs : List Progress) (sent : List Sent) →
    first_work (xs ++ ys ++ zs) sent ≡ option_or (first_work xs sent) (option_or (first_work ys sent) (first_work zs sent))
work_of_three xs ys zs sent =
    work_of_more (xs ++ ys) zs sent
    ∙ ap (λ w. option_or w (first_work zs sent)) (work_of_more xs ys sent)
    ∙ sym (or_or (first_work xs sent) (first_work ys sent) (first_work zs sent))
