-- A commit keeps the rule.
use Rattle.std.proofs.Common.{◌≡◌, ℕ, suc, ◌+◌, ◌%◌, ◌^◌, ◌<◌, ◌≢◌, List, [], ◌∷◌, ◌++◌, set, map, refl, sym, ap, subst, arith, length, slice_index, eq-eqb, ⊎_elim, ◌∙◌, inl, inr}
use Rattle.std.proofs.lemmas.List.{get_or-set_same, get_or-set_other, length-set, length-map, map-append}
use Rattle.std.specs.Prelude.{Option, Some, None, cond, nat_eq}
use mathlib.Core.Option.{some, none}
use mathlib.Core.List.{IsPrefix}
use lib.ListN.{get_elem?}
use Rattle.atomic_table.specs.Table.{State, step, Allows}
use Rattle.atomic_table.specs.Table.Act.{keeps}
use Rattle.atomic_table.proofs.Lists.{at_set}
use Rattle.step_table.specs.declared.known.Entry.{Entry}
use Rattle.step_table.specs.declared.known.Known.{Known}
use Rattle.step_table.specs.Lists.{fst, snd, total, Every, In, pick, put, pair}
use Rattle.step_table.specs.Machines.{Core, Lawful, leaves, next, touched, IsStep, logged, entry_of}
use Rattle.step_table.specs.Rule.{times, Sound, Stands, Shows, IsAt}
use Rattle.step_table.specs.Plays.{Sat, Knows, entered, committed}
use Rattle.step_table.proofs.Lists.{every_map, every_in, every_get, every_snoc, every_mapped, in_longer, in_prefix, in_last, prefix_self, prefix_longer, rising_snoc, pair_fst}
use Rattle.step_table.proofs.Totals.{total_set, same_total, total_at, total_two, total_append}
use Rattle.step_table.proofs.Keeps.{held_parts}
use Rattle.step_table.proofs.Puts.{length_put, put_else, put_shows, put_total, times_fst, in_counts, leaves_snoc, right_snoc}
use Rattle.step_table.proofs.Laws.{after_count, after_logged, logged_below}

pub held_counts : {P : Type 0} (x : ℕ × P) (held : List (ℕ × P)) → In x held → 0 < times x.0 held
held_counts x [] here = absurd here
held_counts {P} x (y ∷ ys) (inl e) = let t : cond {A = ℕ} (nat_eq x.0 y.0) 1 0 ≡ 1 = ap (λ b. cond {A = ℕ} b 1 0) (eq-eqb x.0 y.0 (sym (ap (λ (z : ℕ × P). z.0) e))) in omega arith
held_counts x (y ∷ ys) (inr here) = let h = held_counts x ys here in omega arith

abbrev value_or : {A : Type 0} → A → Option A → A
value_or d None = d
value_or d (Some x) = x

module _ {P E D R F : Type 0} (c : Core P E D R F) (given : List P) where
  -- a slot has one holder
  pub one_holder : (s : State (Option P) (Known P E R)) (id j : ℕ) (v u : Known P E R) (k : ℕ) → (h : Stands c given s) → get_elem? s.views id ≡ some v → get_elem? s.views j ≡ some u → j ≢ id
      → k < length given → 0 < times k v.held → times k u.held ≡ 0
  one_holder s id j v u k h at there apart lt held =
      let two = total_two (λ (x : Known P E R). times k x.held) s.views id j v u (λ e. apart (sym e)) at there in
      let l = h.locks k lt in ⊎_elim (λ (t : _). let z = t.0 in omega arith) (λ (t : _). let z = t.0 in omega arith) (h.places k lt)

  -- a slot that no step touches shows what it did
  pub shows_still : (ks : List ℕ) (qs parts : List P) (doing : Option E) (held : List (ℕ × P)) → ((x : ℕ × P) → In x held → ¬ In x.0 ks)
      → Every (Shows c parts doing) held → Every (Shows c (put ks qs parts) doing) held
  shows_still ks qs parts doing held out all = every_in _ _ held (λ x here shown. (rw (length_put ks qs parts) shown.0, put_else ks qs parts x.0 (out x here) ∙ shown.1, shown.2)) all

  pub shows_new : (ks all_of : List ℕ) (qs parts : List P) (e : E) → ((k : ℕ) → In k ks → In k (c.touches e)) → ((x : ℕ × P) → In x (pair ks qs) → get_elem? parts x.0 ≡ some x.1) → Every (λ k. k < length parts) ks
      → Every (Shows c parts (Some e)) (pair ks qs)
  shows_new [] all_of qs parts e tells at lt = tt
  shows_new (k ∷ ks) all_of [] parts e tells at lt = tt
  shows_new (k ∷ ks) all_of (q ∷ qs) parts e tells at lt = ((lt.0, at (k, q) (inl refl), tells k (inl refl)), shows_new ks all_of qs parts e (λ j here. tells j (inr here)) (λ x here. at x (inr here)) lt.1)

module _ {P E D R F : Type 0} (c : Core P E D R F) (laws : Lawful c) (given : List P) where
  commits_at : (slots id : ℕ) (e : E) (me : Sat P E R) (s : State (Option P) (Known P E R)) (h : Stands c given s) → get_elem? s.views id ≡ some me.0
      → ¬ (me.0.shares ≡ 0) → me.0.doing ≡ Some e → map fst me.0.held ≡ c.touches e → c.refusal (map snd me.0.held) e ≡ None → c.May (length given) e
      → (w : Known P E R) × Stands c given record { words = set s.words 0 (suc (slice_index s.words 0)); homes = s.homes; views = set s.views id w }
      × committed c (Some e) (step slots 0 1 0 none) me (slice_index s.words 0) (w, me.1)
  commits_at slots id e me s h at part busy slots_are fine may =
      let f = h.each id me.0 at in
      let n = slice_index s.words 0 in
      let parts = leaves c given h.since in
      let qs = map snd me.0.held in
      let entry = entry_of c qs e (suc n) in
      let w = entered c me.0 h.since e (suc n) in
      let new = next c parts e (suc n) in
      let picked : qs ≡ touched c parts e = held_parts c given parts me.0.doing me.0.held f.shows ∙ ap (λ ks. pick ks parts) slots_are in
      let may_here : c.May (length parts) e = subst (λ m. c.May m e) (sym h.same) may in
      let fits_here : c.Fits qs e = subst (λ ps. c.Fits ps e) (sym picked) (laws.fits parts e h.legal may_here) in
      let lt = laws.below (length parts) e may_here in
      let up = laws.rising (length parts) e may_here in
      let many = laws.some (length parts) e may_here in
      let held_count : length qs ≡ length (c.touches e) = length-map me.0.held snd ∙ (sym (length-map me.0.held fst) ∙ ap length slots_are) in
      let some_here : 0 < length qs = omega arith in
      let after = c.after qs e (suc n) in
      let now : new ≡ put (c.touches e) after parts = ap (λ ps. put (c.touches e) (c.after ps e (suc n)) parts) (sym picked) in
      let left : leaves c given (h.since ++ entry ∷ []) ≡ new = leaves_snoc c given h.since entry in
      let count : length after ≡ length (c.touches e) = after_count c laws qs e (suc n) fits_here fine ∙ held_count in
      let became : leaves c given (h.since ++ entry ∷ []) ≡ put (c.touches e) after parts = left ∙ now in
      let sum : total (λ (p : P). length (c.log p)) (put (c.touches e) after parts) + total (λ (p : P). length (c.log p)) (pick (c.touches e) parts) ≡ total (λ (p : P). length (c.log p)) parts + total (λ (p : P). length (c.log p)) after
      = put_total (λ p. length (c.log p)) (c.touches e) after parts up lt count in
      let one : total (λ (p : P). length (c.log p)) after ≡ suc (total (λ (p : P). length (c.log p)) qs) = after_logged c laws qs e (suc n) fits_here fine some_here in
      let had : total (λ (p : P). length (c.log p)) qs ≡ total (λ (p : P). length (c.log p)) (pick (c.touches e) parts) = ap (total (λ (p : P). length (c.log p))) picked in
      let order = h.order in
      let same = h.same in
      let grew : logged c (put (c.touches e) after parts) ≡ suc (logged c parts) = omega arith in
      let is_step : IsStep c parts entry = (may_here, ap (λ ps. c.refusal ps e) (sym picked) ∙ fine, ap (λ ps. c.reply ps e (suc n)) picked, omega arith) in
      let right = right_snoc c given h.since entry h.right is_step in
      let long : length (put (c.touches e) after parts) ≡ length given = length_put (c.touches e) after parts ∙ h.same in
      let fsts : map fst w.held ≡ map fst me.0.held = pair_fst (c.touches e) after count ∙ sym slots_are in
      let times_is : (k : ℕ) → times k w.held ≡ times k me.0.held = λ k. times_fst k w.held ∙ (ap (total (λ x. cond {A = ℕ} (nat_eq k x) 1 0)) fsts ∙ sym (times_fst k me.0.held)) in
      let touched_counts : (k : ℕ) → In k (c.touches e) → 0 < times k me.0.held = λ k here. let t = in_counts k (c.touches e) here in let u : times k me.0.held ≡ total (λ x. cond {A = ℕ} (nat_eq k x) 1 0) (c.touches e) = times_fst k me.0.held ∙ ap (total (λ x. cond {A = ℕ} (nat_eq k x) 1 0)) slots_are in omega arith in
      let below_given : (k : ℕ) → In k (c.touches e) → k < length given = λ k here. let l = every_get (λ k. k < length parts) (c.touches e) lt k here in omega arith in
      let past : Every (λ (x : Entry E R). x.number < suc (suc (logged c parts))) (h.since ++ entry ∷ []) = every_snoc (λ (x : Entry E R). x.number < suc (suc (logged c parts))) h.since entry (every_map (λ (x : Entry E R). x.number < suc (logged c parts)) (λ (x : Entry E R). x.number < suc (suc (logged c parts))) (λ x l. omega arith) h.since h.past) (omega arith) in
      let old_mine : (x : Entry E R) → In x me.0.mine → x.number < suc n = λ x here. let l = every_get (λ (y : Entry E R). y.number < suc (logged c parts)) h.since h.past x (in_prefix x me.0.seen h.since f.seen_in (every_get (IsAt me.0.seen) me.0.mine f.mine_in x here)) in omega arith in
      let fits : Sound c given (h.since ++ entry ∷ []) w = record {
        given_is = f.given_is;
        seen_in = prefix_self (h.since ++ entry ∷ []);
        olds_in = every_map _ _ (λ o old. (old.0, prefix_longer o.1 h.since entry old.1)) me.0.olds f.olds_in;
        mine_in = every_snoc (IsAt w.seen) me.0.mine entry (every_map (IsAt me.0.seen) (IsAt w.seen) (λ x here. in_longer x h.since (entry ∷ []) (in_prefix x me.0.seen h.since f.seen_in here)) me.0.mine f.mine_in) (in_last h.since entry);
        mine_rise = rw (map-append (λ (x : Entry E R). x.number) me.0.mine (entry ∷ [])) (rising_snoc (map (λ (x : Entry E R). x.number) me.0.mine) (suc n) f.mine_rise (every_mapped (λ (x : Entry E R). x.number) (λ k. k < suc n) me.0.mine old_mine));
        shows = subst (λ ps. Every (Shows c ps me.0.doing) w.held) (sym became) (subst (λ d. Every (Shows c (put (c.touches e) after parts) d) w.held) (sym busy)
            (shows_new c given (c.touches e) (c.touches e) after (put (c.touches e) after parts) e (λ k here. here) (every_get _ w.held (put_shows (c.touches e) after parts up lt)) (every_map (λ k. k < length parts) (λ k. k < length (put (c.touches e) after parts)) (λ k l. omega arith) (c.touches e) lt)));
        spent_is = λ z. absurd (part z);
      } in
      let other : (j : ℕ) (u : Known P E R) → get_elem? s.views j ≡ some u → j ≢ id → Sound c given (h.since ++ entry ∷ []) u = λ j u there apart. let fu = h.each j u there in record {
        given_is = fu.given_is;
        seen_in = prefix_longer u.seen h.since entry fu.seen_in;
        olds_in = every_map _ _ (λ o old. (old.0, prefix_longer o.1 h.since entry old.1)) u.olds fu.olds_in;
        mine_in = fu.mine_in;
        mine_rise = fu.mine_rise;
        shows = subst (λ ps. Every (Shows c ps u.doing) u.held) (sym became) (shows_still c given (c.touches e) after parts u.doing u.held
            (λ x here touches. let one = one_holder c given s id j me.0 u x.0 h at there apart (below_given x.0 touches) (touched_counts x.0 touches) in let k = held_counts x u.held here in omega arith) fu.shows);
        spent_is = fu.spent_is;
      } in
      let stands : Stands c given record { words = set s.words 0 (suc n); homes = s.homes; views = set s.views id w } = record {
        start = h.start;
        begun = h.begun;
        since = h.since ++ entry ∷ [];
        right = right;
        legal = subst c.Legal (sym left) (laws.stays parts e (suc n) h.legal may_here is_step.1 is_step.3);
        past = subst (λ ps. Every (λ (x : Entry E R). x.number < suc (logged c ps)) (h.since ++ entry ∷ [])) (sym became) (rw grew past);
        up = rw (map-append (λ (x : Entry E R). x.number) h.since (entry ∷ [])) (rising_snoc (map (λ (x : Entry E R). x.number) h.since) (suc n) h.up (every_mapped (λ (x : Entry E R). x.number) (λ k. k < suc n) h.since (λ x here. let l = every_get (λ (y : Entry E R). y.number < suc (logged c parts)) h.since h.past x here in omega arith)));
        wide = length-set s.words 0 (suc n) ∙ h.wide;
        deep = h.deep;
        same = ap length became ∙ long;
        order = get_or-set_same s.words 0 (suc n) 0 (let wide = h.wide in omega arith) ∙ (ap suc h.order ∙ (sym grew ∙ sym (ap (logged c) became)));
        locks = λ k below. same_total (λ (u : Known P E R). times k u.held) s.views id me.0 w at (times_is k) ∙ (h.locks k below ∙ sym (get_or-set_other s.words 0 (suc k) (suc n) 0 (λ z. omega arith)));
        places = λ k below. rw (get_or-set_other s.words 0 (suc k) (suc n) 0 (λ z. omega arith), became)
            (⊎_elim (λ (t : _). inl (t.0, t.1, t.2, put_else (c.touches e) after parts k (λ here. let b = touched_counts k here in let l = h.locks k below in let m = total_at (λ (u : Known P E R). times k u.held) s.views id me.0 at in let z = t.0 in absurd (omega arith)) ∙ t.3)) (λ (t : _). inr t) (h.places k below));
        each = λ j u here. ⊎_elim (λ (t : _). subst (Sound c given (h.since ++ entry ∷ [])) t.1 fits) (λ (t : _). other j u t.1 t.0) (at_set s.views id j w u here);
        shares = same_total (λ (u : Known P E R). u.shares) s.views id me.0 w at refl ∙ h.shares;
        mine = λ g. let t = total_set (λ (u : Known P E R). total g u.mine) s.views id me.0 w at in let m = h.mine g in let a = total_append g me.0.mine (entry ∷ []) in let b = total_append g h.since (entry ∷ []) in omega arith;
      } in
      let bound = logged_below c laws parts h.legal in (
        w,
        stands,
        λ e' is. subst (λ x. (es : List (Entry E R)) × IsPrefix me.0.seen es × (◌≡◌ {A = Sat P E R} (w, me.1) (entered c me.0 es x (suc n), me.1)) × Knows c w × (n < 2 ^ 62)) (ap (value_or e) is)
            (h.since, f.seen_in, refl, subst (λ (g : List P). Knows c (record w { given = g })) (sym (f.given_is part)) (record { start = h.start; begun = h.begun; right = right; mine = fits.mine_in }), omega arith),
      )

  pub commits : (slots id : ℕ) (e : E) (me : Sat P E R) → ¬ (me.0.shares ≡ 0) → me.0.doing ≡ Some e → map fst me.0.held ≡ c.touches e → c.refusal (map snd me.0.held) e ≡ None → c.May slots e
      → Allows (Stands c given) slots id me 0 (λ n. (n + 1) % 2 ^ 64) (committed c (Some e) (step slots 0 1 0 none) me)
  commits slots id e me part busy slots_are fine may s h homes at small =
      let may_here : c.May (length given) e = subst (λ m. c.May m e) (sym homes ∙ h.deep) may in
      let r = commits_at slots id e me s h at part busy slots_are fine may_here in
      let bound = logged_below c laws (leaves c given h.since) h.legal in
      let order = h.order in
      let sum : (slice_index s.words 0 + 1) % 2 ^ 64 ≡ suc (slice_index s.words 0) = omega arith in (
        r.0,
        keeps,
        tt,
        rw sum r.1,
        r.2,
      )
