-- By the laws, each of which says something of a legal history.
use Rattle.std.proofs.Common.{◌∷◌, subst}
use Rattle.model.specs.History.{Legal}
use Rattle.yb_script.proofs.laws.what_is_legal_is_right.Goals as goal

pub returns : goal.returns
returns c = record {
  right = λ slots history few legal. record {
    legal = legal;
    right = c.legal_is_right.ensures.right slots history legal;
    fixed = c.legal_is_right.ensures.fixed slots history legal;
    entry = λ e later earlier is.
        let then = c.runs_are_right.ensures.legal_before slots later (e ∷ earlier) (subst (Legal slots) is legal) in record {
          refused = c.legal_is_right.ensures.refused slots e earlier then;
          needed = c.retention_is_kept.ensures.needed slots e earlier then;
          service = λ schedule to act may. c.a_restore_comes_back.ensures.service slots e earlier schedule to then act may;
        };
    stands = c.legal_is_right.ensures.stands slots history legal;
    cover = c.legal_is_right.ensures.cover slots history legal;
    versions = c.legal_is_right.ensures.versions slots history legal;
    facts = c.legal_is_right.ensures.facts slots history legal;
    owned = λ table ns is. c.legal_is_right.ensures.owned slots history table ns legal is;
    drawn = c.numbers_are_drawn.ensures.drawn slots history legal;
    within = c.numbers_are_drawn.ensures.within slots history legal few;
    below = c.numbers_are_drawn.ensures.below slots history legal few;
    schemas = c.numbers_are_drawn.ensures.schemas slots history legal;
    few = λ t there. c.numbers_are_drawn.ensures.versions slots history t legal there;
    taken = c.numbers_are_drawn.ensures.taken slots history;
    through = c.operations_come_once.ensures.entered slots history legal;
    stamps = c.operations_come_once.ensures.stamps slots history legal;
    clocks = c.operations_come_once.ensures.clocks slots history legal;
    once = c.operations_come_once.ensures.once slots history legal;
    retained = c.retention_is_kept.ensures.retained slots history legal;
    found = c.retention_is_kept.ensures.found slots history legal;
    always = c.something_comes_next.ensures.always slots history legal;
    bounded = c.settling_ends.ensures.bounded slots history legal;
    settles = λ reading. c.settling_ends.ensures.settles slots reading history legal;
    finished = λ reading less runs. record {
      legal = c.accepted_is_finished.ensures.legal slots reading history legal less runs;
      complete = λ r there. c.accepted_is_finished.ensures.complete slots reading history r legal less runs there;
      snapshots = λ r there. c.accepted_is_finished.ensures.snapshots slots reading history r legal less runs there;
      restores = λ asked there. c.accepted_is_finished.ensures.restores slots reading history asked legal less runs there;
      clones = λ asked there. c.accepted_is_finished.ensures.clones slots reading history asked legal less runs there;
    };
  };
}
