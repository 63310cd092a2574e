-- One event over the places of all parts.
use Rattle.std.proofs.Common.{◌≡◌, ℕ, suc, ◌+◌, ◌^◌, ◌<◌, List, [], ◌∷◌, map, refl, sym, ap, subst, arith, length, ◌∙◌, Option, Some, None}
use Rattle.std.proofs.lemmas.List.{length-map}
use Rattle.step_table.specs.declared.known.Entry.{Entry}
use Rattle.step_table.specs.Lists.{Every, pick, put}
use Rattle.step_table.specs.Machines.{Core, Lawful, touched, next, logged, IsStep}
use Rattle.step_table.specs.Histories.{history_of, IsNumbered}
use Rattle.step_table.proofs.Lists.{rising_room}
use Rattle.step_table.proofs.Puts.{length_put}
use Rattle.step_table.proofs.Laws.{length_pick, after_count, logged_below, next_logged}
use Rattle.step_table.proofs.Histories.{history_leaves, whole_numbered}
use Rattle.step_line.specs.Places.{found, without, IsThere, means}
use Rattle.step_line.specs.Lines.{Stepped, Holds}
use Rattle.step_line.proofs.Taken.{found_map, all_there, put_without, put_pick, map_put, pick_map, length_without}

module _ {P E D R F : Type 0} (c : Core P E D R F) (laws : Lawful c) where
  touched_lt : (places : List (Option P)) (e : E) → c.May (length (means c.meaning places)) e → Every (λ k. k < length (found places)) (c.touches e)
  touched_lt places e may = subst (λ n. Every (λ k. k < n) (c.touches e)) (length-map (found places) c.meaning) (laws.below (length (means c.meaning places)) e may)

  pub are_there : (places : List (Option P)) (e : E) → places ≡ map Some (found places) → c.May (length (means c.meaning places)) e → Every (IsThere places) (c.touches e)
  are_there places e whole may = subst (λ ps. Every (IsThere ps) (c.touches e)) (sym whole) (all_there (found places) (c.touches e) (touched_lt places e may))

  pub are_few : (places : List (Option P)) (e : E) → c.Legal (means c.meaning places) → c.May (length (means c.meaning places)) e → length (c.touches e) < 2 ^ 32
  are_few places e legal may = let n = length (means c.meaning places) in let r = rising_room n (c.touches e) (laws.rising n e may) (laws.below n e may) in let few = laws.few (means c.meaning places) legal in omega arith

  -- what is held of whole places means what the event touches
  pub held_means : (places : List (Option P)) (e : E) (qs : List P) → places ≡ map Some (found places) → c.May (length (means c.meaning places)) e → map Some qs ≡ pick (c.touches e) places
      → map c.meaning qs ≡ touched c (means c.meaning places) e
  held_means places e qs whole may is =
      let lt = touched_lt places e may in
      let raw : qs ≡ pick (c.touches e) (found places) =
      sym (found_map qs) ∙ ap found (is ∙ ap (pick (c.touches e)) whole ∙ pick_map Some (c.touches e) (found places) lt) ∙ found_map (pick (c.touches e) (found places)) in
      ap (map c.meaning) raw ∙ sym (pick_map c.meaning (c.touches e) (found places) lt)

  pub may_fit : (places : List (Option P)) (e : E) → c.Legal (means c.meaning places) → c.May (length (means c.meaning places)) e → c.Fits (touched c (means c.meaning places) e) e
  may_fit places e legal may = laws.fits (means c.meaning places) e legal may

  touched_count : (places : List (Option P)) (e : E) → c.May (length (means c.meaning places)) e → length (touched c (means c.meaning places) e) ≡ length (c.touches e)
  touched_count places e may = length_pick (c.touches e) (means c.meaning places) (laws.below (length (means c.meaning places)) e may)

  -- the places, once parts are back that mean these
  pub record IsBack (places now : List (Option P)) (e : E) (ys : List P) : Type 0 where
    pub whole : now ≡ map Some (found now)
    pub mean : means c.meaning now ≡ put (c.touches e) ys (means c.meaning places)

  pub are_back : (places : List (Option P)) (e : E) (ks : List ℕ) (qs ys : List P) (now : List (Option P)) → places ≡ map Some (found places) → c.May (length (means c.meaning places)) e → ks ≡ c.touches e
      → map c.meaning qs ≡ ys → length ys ≡ length (c.touches e) → now ≡ put ks (map Some qs) (without (c.touches e) places) → IsBack places now e ys
  are_back places e ks qs ys now whole may same mean len is =
      let lt = touched_lt places e may in
      let count : length qs ≡ length (c.touches e) = sym (length-map qs c.meaning) ∙ ap length mean ∙ len in
      let became : now ≡ map Some (put (c.touches e) qs (found places)) =
      is ∙ ap (λ js. put js (map Some qs) (without (c.touches e) places)) same ∙ ap (λ ps. put (c.touches e) (map Some qs) (without (c.touches e) ps)) whole
      ∙ put_without (c.touches e) qs (found places) (laws.rising (length (means c.meaning places)) e may) lt count in
      let raw : found now ≡ put (c.touches e) qs (found places) = ap found became ∙ found_map (put (c.touches e) qs (found places)) in
      record {
        whole = became ∙ sym (ap (map Some) raw);
        mean = ap (map c.meaning) raw ∙ map_put c.meaning (c.touches e) qs (found places) ∙ ap (λ zs. put (c.touches e) zs (means c.meaning places)) mean;
      }

  pub same_back : (places now : List (Option P)) (e : E) → c.May (length (means c.meaning places)) e → IsBack places now e (touched c (means c.meaning places) e) → means c.meaning now ≡ means c.meaning places
  same_back places now e may back = back.mean ∙ put_pick (c.touches e) (means c.meaning places) (laws.below (length (means c.meaning places)) e may)

  pub same_are_back : (places : List (Option P)) (e : E) (ks : List ℕ) (qs : List P) (now : List (Option P)) → places ≡ map Some (found places) → c.May (length (means c.meaning places)) e → ks ≡ c.touches e
      → map c.meaning qs ≡ touched c (means c.meaning places) e → now ≡ put ks (map Some qs) (without (c.touches e) places) → IsBack places now e (touched c (means c.meaning places) e)
  same_are_back places e ks qs now whole may same mean is = are_back places e ks qs (touched c (means c.meaning places) e) now whole may same mean (touched_count places e may) is

  pub next_are_back : (places : List (Option P)) (e : E) (n : ℕ) (ks : List ℕ) (qs : List P) (now : List (Option P)) → places ≡ map Some (found places) → Holds c (means c.meaning places) → c.May (length (means c.meaning places)) e → ks ≡ c.touches e
      → c.refusal (touched c (means c.meaning places) e) e ≡ None → map c.meaning qs ≡ c.after (touched c (means c.meaning places) e) e n → now ≡ put ks (map Some qs) (without (c.touches e) places)
      → IsBack places now e (c.after (touched c (means c.meaning places) e) e n)
  next_are_back places e n ks qs now whole holds may same fine mean is =
      are_back places e ks qs (c.after (touched c (means c.meaning places) e) e n) now whole may same mean
      (after_count c laws (touched c (means c.meaning places) e) e n (may_fit places e holds.legal may) fine ∙ touched_count places e may) is

  pub stepped : (ps : List P) (e : E) (n : ℕ) (r : R) (now : List P) → Holds c ps → c.May (length ps) e → c.refusal (touched c ps e) e ≡ None → n ≡ suc (logged c ps) → r ≡ c.reply (touched c ps e) e n → now ≡ next c ps e n → Stepped c e r ps now
  stepped ps e n r now holds may fine number reply became =
      let entry : Entry E R = record { number = n; event = e; reply = r } in
      let step : IsStep c ps entry = (may, fine, reply, number) in
      record {
        entry = entry;
        event = refl;
        reply = refl;
        step = step;
        parts = became;
        history = ap (history_of c) became ∙ history_leaves c laws ps (entry ∷ []) holds.legal holds.numbered (step, tt);
      }

  pub holds_next : (e : E) (r : R) (before after : List P) → Holds c before → Stepped c e r before after → Holds c after
  holds_next e r before after holds s = record {
    legal = subst c.Legal (sym s.parts) (laws.stays before s.entry.event s.entry.number holds.legal s.step.0 s.step.1 s.step.3);
    numbered = subst (IsNumbered 1) (sym s.history) (whole_numbered c laws before (s.entry ∷ []) holds.legal holds.numbered (s.step, tt));
  }

  pub are_within : (places : List (Option P)) (e : E) (ks : List ℕ) (now : List (Option P)) → places ≡ map Some (found places) → c.May (length (means c.meaning places)) e → ks ≡ c.touches e → now ≡ without (c.touches e) places
      → Every (λ k. k < length now) ks
  are_within places e ks now whole may same is =
      let count : length (found places) ≡ length now = sym (length-map (found places) Some) ∙ sym (ap length whole) ∙ sym (length_without (c.touches e) places) ∙ sym (ap length is) in
      subst (λ js. Every (λ k. k < length now) js) (sym same) (subst (λ n. Every (λ k. k < n) (c.touches e)) count (touched_lt places e may))

  pub last_few : (ps : List P) (last : ℕ) → Holds c ps → last ≡ logged c ps → last < 2 ^ 62
  last_few ps last holds is = let b = logged_below c laws ps holds.legal in omega arith

  pub logged_next : (e : E) (r : R) (before after : List P) (last : ℕ) → Holds c before → Stepped c e r before after → last ≡ logged c before → last + 1 ≡ logged c after
  logged_next e r before after last holds s is =
      let grew : logged c after ≡ suc (logged c before) = ap (logged c) s.parts ∙ next_logged c laws before s.entry.event s.entry.number holds.legal s.step.0 s.step.1 in omega arith

  pub size_next : (e : E) (r : R) (before after : List P) → Stepped c e r before after → length after ≡ length before
  size_next e r before after s = ap length s.parts ∙ length_put (c.touches s.entry.event) (c.after (touched c before s.entry.event) s.entry.event s.entry.number) before
