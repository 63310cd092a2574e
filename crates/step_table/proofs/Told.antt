-- What a seat knows, as the clauses on a pass say it.
use Rattle.std.proofs.Common.{◌≡◌, ◌⊎◌, [], ◌∷◌, ◌++◌, sym, ap, subst, ◌∙◌, append_assoc, Result, Ok, Err}
use Rattle.std.specs.Prelude.{Some, IfOk, IfErr, OnErr}
use mathlib.Core.List.{IsPrefix}
use Rattle.atomic_table.specs.Seated.{TableId}
use Rattle.step_table.specs.declared.known.Known.{Known}
use Rattle.step_table.specs.declared.refused.TryRefused.{TryRefused}
use Rattle.step_table.specs.declared.refused.TryRefused.TheVariants.{Taken, Step}
use Rattle.step_table.specs.Lists.{Every}
use Rattle.step_table.specs.Machines.{Core, Lawful, leaves, touched}
use Rattle.step_table.specs.Histories.{history_of, Follows, IsAtNumber}
use Rattle.step_table.specs.Rule.{IsAt}
use Rattle.step_table.specs.Plays.{Knows}
use Rattle.step_table.specs.Seats.{Performed, Declined}
use Rattle.step_table.specs.Passes.{told, EntryAdded, Refuses}
use Rattle.step_table.specs.Tries.{TryDeclined, FoundBy, OthersShare, TouchedBy, TryRefuses}
use Rattle.step_table.proofs.Lists.{every_map, prefix_behind, prefix_self}
use Rattle.step_table.proofs.Histories.{follows, whole_numbered, at_number, made_is}

module _ {P E D R F : Type 0} (c : Core P E D R F) where
  pub knows_follows : (laws : Lawful c) (v : Known P E R) → Knows c v → Follows c v.given (history_of c v.given ++ v.seen)
  knows_follows laws v k = follows c laws v.given v.seen k.start k.begun k.right

  pub knows_numbers : (laws : Lawful c) (v : Known P E R) → Knows c v → Every (IsAtNumber (history_of c v.given ++ v.seen)) v.mine
  knows_numbers laws v k = every_map (IsAt v.seen) (IsAtNumber (history_of c v.given ++ v.seen))
      (λ e here. at_number (history_of c v.given ++ v.seen) e (whole_numbered c laws v.given v.seen k.start k.begun k.right) (Rattle.step_table.proofs.Lists.in_behind e (history_of c v.given) v.seen here)) v.mine k.mine

  pub seen_later : (v w : Known P E R) → w.given ≡ v.given → IsPrefix v.seen w.seen → IsPrefix (history_of c v.given ++ v.seen) (history_of c w.given ++ w.seen)
  seen_later v w given later = subst (λ g. IsPrefix (history_of c v.given ++ v.seen) (history_of c g ++ w.seen)) (sym given) (prefix_behind (history_of c v.given) v.seen w.seen later)

  pub added : (e : E) (r : R) (id next_id : TableId) (v w : Known P E R) → w.given ≡ v.given → Performed c e r v w → EntryAdded e r (told c id v) (told c next_id w)
  added e r id next_id v w given p = record {
    entry = p.entry;
    event = p.event;
    reply = p.reply;
    made = p.made;
    before = history_of c v.given ++ p.before;
    seen = ap (λ es. history_of c w.given ++ es) p.seen ∙ (ap (λ g. history_of c g ++ (p.before ++ p.entry ∷ [])) given ∙ sym (append_assoc (history_of c v.given) p.before (p.entry ∷ [])));
    later = prefix_behind (history_of c v.given) v.seen p.before p.later;
  }

  pub refuses : (e : E) (f : F) (id : TableId) (v w : Known P E R) → Declined c e f v w → Refuses c e f (told c id w)
  refuses e f id v w d = subst (λ es. (f ≡ c.no_memory) ⊎ (c.refusal (touched c (leaves c w.given es) e) e ≡ Some f)) (sym (made_is c w.given w.seen)) d.cause

  pub try_made : (e : E) (v w : Known P E R) (t : TryRefused F) → TryDeclined c e v w t → w.mine ≡ v.mine
  try_made e v w (Taken slot) d = d.4
  try_made e v w (Step refused) d = d.0.made

  pub try_later : (e : E) (v w : Known P E R) (t : TryRefused F) → TryDeclined c e v w t → IsPrefix v.seen w.seen
  try_later e v w (Taken slot) d = subst (IsPrefix v.seen) (sym d.3) (prefix_self v.seen)
  try_later e v w (Step refused) d = d.0.later

  pub try_found : (e : E) (id next_id : TableId) (v w : Known P E R) (t : TryRefused F) → TryDeclined c e v w t → FoundBy (told c id v) (told c next_id w) t
  try_found e id next_id v w (Taken slot) d = d.0
  try_found e id next_id v w (Step refused) d = d.1

  pub try_touched : (e : E) (v w : Known P E R) (t : TryRefused F) → TryDeclined c e v w t → TouchedBy c e t
  try_touched e v w (Taken slot) d = d.2
  try_touched e v w (Step refused) d = tt

  pub try_others : (e : E) (id : TableId) (v w : Known P E R) (t : TryRefused F) → TryDeclined c e v w t → OthersShare (told c id v) t
  try_others e id v w (Taken slot) d = d.1
  try_others e id v w (Step refused) d = tt

  pub try_refuses : (e : E) (id : TableId) (v w : Known P E R) (t : TryRefused F) → TryDeclined c e v w t → TryRefuses c e (told c id w) t
  try_refuses e id v w (Taken slot) d = tt
  try_refuses e id v w (Step refused) d = refuses e refused id v w d.0

module _ {A B : Type 0} where
  pub ok_gives : (F G : A → Type 0) (r : Result A B) → ((x : A) → F x → G x) → IfOk r F → IfOk r G
  ok_gives F G (Ok x) f h = f x h
  ok_gives F G (Err x) f h = tt

  pub err_gives : (F G : B → Type 0) (r : Result A B) → ((x : B) → F x → G x) → IfErr r F → IfErr r G
  err_gives F G (Ok x) f h = tt
  err_gives F G (Err x) f h = f x h

  pub err_says : (F : B → Type 0) (G : Type 0) (r : Result A B) → ((x : B) → F x → G) → IfErr r F → OnErr r G
  err_says F G (Ok x) f h = tt
  err_says F G (Err x) f h = f x h
