-- Each step keeps the rule.
use Rattle.std.proofs.Common.{◌≡◌, ℕ, suc, ◌+◌, ◌<◌, ◌≢◌, List, [], ◌∷◌, ◌++◌, set, map, refl, sym, ap, subst, arith, length, slice_index, ⊎_elim, ◌∙◌, inl, inr}
use Rattle.std.proofs.lemmas.List.{set-get_or}
use mathlib.Core.Option.{some, none, some-ne-none, some-injective}
use mathlib.Core.Option as maybe
use lib.ListN.{get_elem?}
use Rattle.std.specs.Prelude.{Option, Some, None, cond, nat_eq, eqb}
use Rattle.std.proofs.Common.{eq-eqb, ne_eqb}
use Rattle.atomic_table.specs.Table.{State, Me, step, Allows}
use Rattle.atomic_table.specs.Table.Act.{keeps, takes, gives}
use Rattle.atomic_table.proofs.Lists.{at_set}
use Rattle.step_table.specs.declared.known.Entry.{Entry}
use Rattle.step_table.specs.declared.known.Known.{Known}
use Rattle.step_table.specs.Lists.{fst, snd, total, Every, pick}
use Rattle.step_table.specs.Machines.{Core, leaves, logged}
use Rattle.step_table.specs.Rule.{times, Sound, Place, Stands, Shows, Announces, IsOld, IsAt}
use Rattle.step_table.specs.Plays.{looked, Sees, Sat, took, holding, finding, IsBusyWith, but_last, still, released, gave}
use Rattle.step_table.proofs.Lists.{every_map, every_snoc, every_init, in_prefix, prefix_self, but_last_snoc}
use Rattle.step_table.proofs.Totals.{total_set, same_total, total_at, total_two, total_append}
use Rattle.std.proofs.lemmas.List.{get_or-set_same, get_or-set_other, length-set}
use Rattle.atomic_table.proofs.Lists.{set_here, set_else, exchanged}
use prog.Atomic.{either}
use mathlib.Core.Logic.{dite}
use native.Mathlib.Decide.{ℕ_discrete}

module _ {P E D R F : Type 0} (c : Core P E D R F) (given : List P) where
  -- one view changes, and holds, has made and shares what it did
  pub viewed : (s : State (Option P) (Known P E R)) (id : ℕ) (v w : Known P E R) → (h : Stands c given s) → get_elem? s.views id ≡ some v
      → w.held ≡ v.held → w.mine ≡ v.mine → w.shares ≡ v.shares → Sound c given h.since w
      → Stands c given record { words = s.words; homes = s.homes; views = set s.views id w }
  viewed s id v w h at held mine shares fits = record {
    start = h.start;
    begun = h.begun;
    since = h.since;
    right = h.right;
    legal = h.legal;
    past = h.past;
    up = h.up;
    wide = h.wide;
    deep = h.deep;
    same = h.same;
    order = h.order;
    locks = λ k lt. same_total (λ (u : Known P E R). times k u.held) s.views id v w at (ap (times k) held) ∙ h.locks k lt;
    places = h.places;
    each = λ j u here. ⊎_elim (λ (t : _). subst (Sound c given h.since) t.1 fits) (λ (t : _). h.each j u t.1) (at_set s.views id j w u here);
    shares = same_total (λ (u : Known P E R). u.shares) s.views id v w at shares ∙ h.shares;
    mine = λ g. same_total (λ (u : Known P E R). total g u.mine) s.views id v w at (ap (total g) mine) ∙ h.mine g;
  }

  pub held_parts : (parts : List P) (doing : Option E) (held : List (ℕ × P)) → Every (Shows c parts doing) held → map snd held ≡ pick (map fst held) parts
  held_parts parts doing [] all = refl
  held_parts parts doing (x ∷ xs) all = rw all.0.1 (ap (λ (ys : List P). x.1 ∷ ys) (held_parts parts doing xs all.1))

  -- the view of a seat that has seen the whole history
  abbrev seeing : Known P E R → List (Entry E R) → Known P E R
  seeing v es = record v { seen = es; olds = [] }

  seeing_sound : (since : List (Entry E R)) (v : Known P E R) → Sound c given since v → ¬ (v.shares ≡ 0) → Sound c given since (seeing v since)
  seeing_sound since v f part = record {
    given_is = f.given_is;
    seen_in = prefix_self since;
    olds_in = tt;
    mine_in = every_map (IsAt v.seen) (IsAt since) (λ e. in_prefix e v.seen since f.seen_in) v.mine f.mine_in;
    mine_rise = f.mine_rise;
    shows = f.shows;
    spent_is = λ z. absurd (part z);
  }

  pub looks : (slots id : ℕ) (me : Sat P E R) → ¬ (me.0.shares ≡ 0) → Allows (Stands c given) slots id me 0 (λ n. n) (looked c (step slots 0 0 0 none) me)
  looks slots id me part s h homes at small =
      let f = h.each id me.0 at in
      let w = seeing me.0 h.since in
      let fits = seeing_sound h.since me.0 f part in (
        w,
        keeps,
        tt,
        rw (set-get_or s.words 0 0) (viewed s id me.0 w h at refl refl refl fits),
        (
          refl,
          f.seen_in,
          subst (λ (g : List P). Every (IsOld g h.since) me.0.olds) (sym (f.given_is part)) f.olds_in,
          subst (λ (g : List P). Sees c (record w { given = g })) (sym (f.given_is part)) (record {
            knows = record { start = h.start; begun = h.begun; right = h.right; mine = fits.mine_in };
            legal = h.legal;
            same = h.same;
            parts = held_parts _ me.0.doing me.0.held f.shows;
          }),
          subst (λ (g : List P). slice_index s.words 0 ≡ logged c (leaves c g h.since)) (sym (f.given_is part)) h.order,
          ap length (f.given_is part) ∙ (sym h.deep ∙ homes),
          (let t = total_at (λ (u : Known P E R). u.shares) s.views id me.0 at in let a = h.shares in omega arith),
        ),
      )

  times_append : (j k : ℕ) (q : P) (held : List (ℕ × P)) → times j (held ++ (k, q) ∷ []) ≡ times j held + cond (nat_eq j k) 1 0
  times_append j k q held = let h = total_append (λ (x : ℕ × P). cond (nat_eq j x.0) 1 0) held ((k, q) ∷ []) in omega arith

  times_same : (k : ℕ) (q : P) (held : List (ℕ × P)) → times k (held ++ (k, q) ∷ []) ≡ times k held + 1
  times_same k q held = times_append k k q held ∙ ap (λ b. times k held + cond b 1 0) (eq-eqb k k refl)

  times_other : (j k : ℕ) (q : P) (held : List (ℕ × P)) → j ≢ k → times j (held ++ (k, q) ∷ []) ≡ times j held
  times_other j k q held apart = times_append j k q held ∙ (ap (λ b. times j held + cond b 1 0) (ne_eqb j k apart) ∙ omega arith)

  -- one lock word changes, its slot leaves or comes home, and one view takes or leaves it
  pub moved : (s : State (Option P) (Known P E R)) (id : ℕ) (v w : Known P E R) (k lock : ℕ) (home : maybe.Option (Option P)) → (h : Stands c given s) → get_elem? s.views id ≡ some v
      → k < length given → w.mine ≡ v.mine → w.shares ≡ v.shares → Sound c given h.since w
      → Place c (leaves c given h.since) k lock (some home)
      → times k w.held + slice_index s.words (suc k) ≡ times k v.held + lock
      → ((j : ℕ) → j ≢ k → times j w.held ≡ times j v.held)
      → Stands c given record { words = set s.words (suc k) lock; homes = set s.homes k home; views = set s.views id w }
  moved s id v w k lock home h at lt mine shares fits place here others = let wide = h.wide in let deep = h.deep in record {
    start = h.start;
    begun = h.begun;
    since = h.since;
    right = h.right;
    legal = h.legal;
    past = h.past;
    up = h.up;
    same = h.same;
    wide = length-set s.words (suc k) lock ∙ h.wide;
    deep = length-set s.homes k home ∙ h.deep;
    order = get_or-set_other s.words (suc k) 0 lock 0 (λ e. omega arith) ∙ h.order;
    locks = λ j below. dite (ℕ_discrete j k)
        (λ (e : j ≡ k). let t = total_set (λ (u : Known P E R). times k u.held) s.views id v w at in let l = h.locks k lt in
        let g = get_or-set_same s.words (suc k) lock 0 (omega arith) in
        subst (λ i. total (λ (u : Known P E R). times i u.held) (set s.views id w) ≡ slice_index (set s.words (suc k) lock) (suc i)) (sym e) (omega arith))
        (λ (ne : j ≢ k). same_total (λ (u : Known P E R). times j u.held) s.views id v w at (others j ne) ∙ (h.locks j below ∙ sym (get_or-set_other s.words (suc k) (suc j) lock 0 (λ e. ne (omega arith)))));
    places = λ j below. dite (ℕ_discrete j k)
        (λ (e : j ≡ k). subst (λ i. Place c (leaves c given h.since) i (slice_index (set s.words (suc k) lock) (suc i)) (get_elem? (set s.homes k home) i)) (sym e)
        (rw (get_or-set_same s.words (suc k) lock 0 (omega arith), set_here s.homes k home (omega arith)) place))
        (λ (ne : j ≢ k). rw (get_or-set_other s.words (suc k) (suc j) lock 0 (λ e. ne (omega arith)), set_else s.homes k j home ne) (h.places j below));
    each = λ j u here. ⊎_elim (λ (t : _). subst (Sound c given h.since) t.1 fits) (λ (t : _). h.each j u t.1) (at_set s.views id j w u here);
    shares = same_total (λ (u : Known P E R). u.shares) s.views id v w at shares ∙ h.shares;
    mine = λ g. same_total (λ (u : Known P E R). total g u.mine) s.views id v w at (ap (total g) mine) ∙ h.mine g;
  }

  busy_shows : (parts : List P) (v : Known P E R) (event : Option E) → IsBusyWith v event → Every (Shows c parts v.doing) v.held → Every (Shows c parts event) v.held
  busy_shows parts v event (inl empty) all = subst (Every (Shows c parts event)) (sym empty) tt
  busy_shows parts v event (inr same) all = subst (λ d. Every (Shows c parts d) v.held) same all

  -- a slot that stands among them was counted
  pub some_there : {A : Type 0} (f : A → ℕ) (xs : List A) → ¬ (total f xs ≡ 0) → (j : ℕ) × (w : A) × (get_elem? xs j ≡ some w) × ¬ (f w ≡ 0)
  some_there f [] n = absurd (n refl)
  some_there f (x ∷ xs) n = dite (ℕ_discrete (f x) 0) (λ (z : f x ≡ 0). let r = some_there f xs (λ e. n (omega arith)) in (suc r.0, r.1, r.2, r.3)) (λ (ne : ¬ (f x ≡ 0)). (0, x, refl, ne))

  -- another holds it, and has a share
  pub held_by_another : (s : State (Option P) (Known P E R)) (id : ℕ) (v : Known P E R) (k : ℕ) → (h : Stands c given s) → get_elem? s.views id ≡ some v
      → times k v.held ≡ 0 → ¬ (total (λ (u : Known P E R). times k u.held) s.views ≡ 0) → v.shares < 4096
  held_by_another s id v k h at free taken =
      let r = some_there (λ (u : Known P E R). times k u.held) s.views taken in
      let apart : id ≢ r.0 = λ e. r.3 (ap (λ (u : Known P E R). times k u.held) (some-injective _ _ (sym (r.2) ∙ (ap (λ j. get_elem? s.views j) (sym e) ∙ at))) ∙ free) in
      let two = total_two (λ (u : Known P E R). u.shares) s.views id r.0 v r.1 apart at r.2 in
      let more : ¬ (r.1.shares ≡ 0) = λ z. r.3 (ap (λ (u : Known P E R). times k u.held) ((h.each r.0 r.1 r.2).spent_is z)) in
      let all = h.shares in omega arith

  took_all : (event : Option E) (slots k : ℕ) (a b : ℕ) (me : Sat P E R) (n : ℕ) (m' : Sat P E R)
      → (n ≡ 0 → (p : P) × (m' ≡ (holding me.0 event k (c.meaning p), (k, Some p) ∷ me.1)))
      → (¬ (n ≡ 0) → (m' ≡ (finding me.0 k, me.1)) × (me.0.shares < 4096))
      → took c event (step slots (suc k) a b none) me n m'
  took_all event slots k a b me n m' hit miss j e = let same : k ≡ j = omega arith in
      subst (λ i. (n ≡ 0 → (p : P) × (m' ≡ (holding me.0 event i (c.meaning p), (i, Some p) ∷ me.1))) × (¬ (n ≡ 0) → (m' ≡ (finding me.0 i, me.1)) × (me.0.shares < 4096))) same (hit, miss)

  pub takes_free : (event : Option E) (slots id k : ℕ) (me : Sat P E R) (s : State (Option P) (Known P E R)) (h : Stands c given s) → get_elem? s.views id ≡ some me.0
      → ¬ (me.0.shares ≡ 0) → k < length given → IsBusyWith me.0 event → Announces c event k → times k me.0.held ≡ 0 → slice_index s.words (suc k) ≡ 0
      → Place c (leaves c given h.since) k (slice_index s.words (suc k)) (get_elem? s.homes k)
      → (w : Known P E R) × (a : Rattle.atomic_table.specs.Table.Act (Option P)) × Rattle.atomic_table.specs.Table.Valid s.homes me.1 a × Stands c given (Rattle.atomic_table.specs.Table.stepped s (suc k) 1 id me.1 w a)
      × took c event (step slots (suc k) 0 1 none) me (slice_index s.words (suc k)) (w, Rattle.atomic_table.specs.Table.carried_after me.1 a)
  takes_free event slots id k me s h at part lt busy tells free open_word (inr taken) = absurd (let t = taken.0 in omega arith)
  takes_free event slots id k me s h at part lt busy tells free open_word (inl place) =
      let f = h.each id me.0 at in
      let p = place.1 in
      let w = holding me.0 event k (c.meaning p) in
      let same = h.same in
      let fits : Sound c given h.since w = record {
        given_is = f.given_is;
        seen_in = f.seen_in;
        olds_in = f.olds_in;
        mine_in = f.mine_in;
        mine_rise = f.mine_rise;
        shows = every_snoc (Shows c (leaves c given h.since) event) me.0.held (k, c.meaning p) (busy_shows _ me.0 event busy f.shows) (omega arith, place.3, tells);
        spent_is = λ z. absurd (part z);
      } in
      let more = times_same k (c.meaning p) me.0.held in (
        w,
        takes k (Some p),
        place.2,
        moved s id me.0 w k 1 none h at lt refl refl fits (inr (refl, refl)) (omega arith) (λ j ne. times_other j k (c.meaning p) me.0.held ne),
        took_all event slots k 0 1 me _ _ (λ z. (p, refl)) (λ n. absurd (n open_word)),
      )

  pub takes_lock : (event : Option E) (slots id k i : ℕ) (me : Sat P E R) → i ≡ suc k → ¬ (me.0.shares ≡ 0) → k < slots → IsBusyWith me.0 event → Announces c event k → times k me.0.held ≡ 0
      → Allows (Stands c given) slots id me i (λ n. either (eqb n 0) 1 n) (took c event (step slots i 0 1 none) me)
  takes_lock event slots id k i me is part lt busy tells free = subst (λ j. Allows (Stands c given) slots id me j (λ n. either (eqb n 0) 1 n) (took c event (step slots j 0 1 none) me)) (sym is)
      (λ s h homes at small. let deep = h.deep in let below : k < length given = omega arith in let f = h.each id me.0 at in
      exchanged (slice_index s.words (suc k)) 0 1
      (λ x. (w : Known P E R) × (a : Rattle.atomic_table.specs.Table.Act (Option P)) × Rattle.atomic_table.specs.Table.Valid s.homes me.1 a × Stands c given (Rattle.atomic_table.specs.Table.stepped s (suc k) x id me.1 w a)
      × took c event (step slots (suc k) 0 1 none) me (slice_index s.words (suc k)) (w, Rattle.atomic_table.specs.Table.carried_after me.1 a))
      (λ zero. takes_free event slots id k me s h at part below busy tells free zero (h.places k below))
      (λ some. (
        finding me.0 k,
        keeps,
        tt,
        rw (set-get_or s.words (suc k) 0) (viewed s id me.0 (finding me.0 k) h at refl refl refl
            (record { given_is = f.given_is; seen_in = f.seen_in; olds_in = f.olds_in; mine_in = f.mine_in; mine_rise = f.mine_rise; shows = f.shows; spent_is = λ z. absurd (part z) })),
        took_all event slots k 0 1 me _ _ (λ z. absurd (some z)) (λ n. (refl, held_by_another s id me.0 k h at free (λ t. some (sym (h.locks k below) ∙ t)))),
      )))

  still_shows : (parts : List P) (doing : Option E) (xs : List (ℕ × P)) → Every (Shows c parts doing) xs → Every (Shows c parts (still xs doing)) xs
  still_shows parts doing [] all = tt
  still_shows parts doing (x ∷ xs) all = all

  -- a held slot's lock word is 1
  pub lock_of : (s : State (Option P) (Known P E R)) (id : ℕ) (v : Known P E R) (k : ℕ) → (h : Stands c given s) → get_elem? s.views id ≡ some v → k < length given
      → 0 < times k v.held → Place c (leaves c given h.since) k (slice_index s.words (suc k)) (get_elem? s.homes k) → slice_index s.words (suc k) ≡ 1
  lock_of s id v k h at lt held (inr taken) = taken.0
  lock_of s id v k h at lt held (inl place) = let z = place.0 in let l = h.locks k lt in let t = total_at (λ (u : Known P E R). times k u.held) s.views id v at in absurd (omega arith)

  pub gives_lock : (slots id k i : ℕ) (q p : P) (xs : List (ℕ × P)) (tail : List (ℕ × Option P)) (me : Sat P E R) → i ≡ suc k → ¬ (me.0.shares ≡ 0)
      → me.0.held ≡ xs ++ (k, q) ∷ [] → me.1 ≡ (k, Some p) ∷ tail → c.meaning p ≡ q
      → Allows (Stands c given) slots id me i (λ _. 0) (λ _. gave (step slots i 0 0 none) me 0)
  gives_lock slots id k i q p xs tail me is part held carried means s h homes at small =
      let f = h.each id me.0 at in
      let w = released me.0 in
      let last = every_init (Shows c (leaves c given h.since) me.0.doing) xs (k, q) (subst (Every (Shows c (leaves c given h.since) me.0.doing)) held f.shows) in
      let init : but_last me.0.held ≡ xs = ap (but_last) held ∙ but_last_snoc xs (k, q) in
      let same = h.same in
      let lt : k < length given = let l = last.1.0 in omega arith in
      let one : times k me.0.held ≡ times k xs + 1 = ap (times k) held ∙ times_same k q xs in
      let lock : slice_index s.words (suc k) ≡ 1 = lock_of s id me.0 k h at lt (omega arith) (h.places k lt) in
      let now : times k w.held ≡ times k xs = ap (times k) init in
      let fits : Sound c given h.since w = record {
        given_is = f.given_is;
        seen_in = f.seen_in;
        olds_in = f.olds_in;
        mine_in = f.mine_in;
        mine_rise = f.mine_rise;
        shows = subst (λ ys. Every (Shows c (leaves c given h.since) (still ys me.0.doing)) ys) (sym init) (still_shows _ me.0.doing xs last.0);
        spent_is = λ z. absurd (part z);
      } in (
        w,
        gives,
        tt,
        subst (λ (ys : List (ℕ × Option P)). Stands c given record { words = set s.words i 0; homes = Rattle.atomic_table.specs.Table.put_back s.homes ys; views = set s.views id w }) (sym carried)
            (subst (λ j. Stands c given record { words = set s.words j 0; homes = set s.homes k (some (Some p)); views = set s.views id w }) (sym is)
            (moved s id me.0 w k 0 (some (Some p)) h at lt refl refl fits (inl (refl, p, refl, last.1.1 ∙ ap some (sym means))) (omega arith)
            (λ j ne. ap (times j) init ∙ sym (ap (times j) held ∙ times_other j k q xs ne)))),
        refl,
      )

module _ {X : Type 0} where
  abbrev head_or : X → List (ℕ × X) → X
  head_or d [] = d
  head_or d (x ∷ xs) = x.1

  pub same_head : (j k : ℕ) (x y : X) (xs ys : List (ℕ × X)) → ◌≡◌ {A = List (ℕ × X)} ((j, x) ∷ xs) ((k, y) ∷ ys) → x ≡ y
  same_head j k x y xs ys e = ap (head_or x) e

  pub first_and_rest : (xs ys : List (ℕ × X)) (x : ℕ × X) → xs ≡ x ∷ ys → xs ≡ x ∷ Rattle.atomic_table.specs.Table.rest xs
  first_and_rest xs ys x e = e ∙ ap (λ zs. x ∷ zs) (sym (ap Rattle.atomic_table.specs.Table.rest e))

abbrev pub in_some : {X : Type 0} → X → Option X → X
in_some d None = d
in_some d (Some x) = x

module _ {P E D R F : Type 0} (c : Core P E D R F) where
  -- the slot was taken, and then its part was moved out
  pub moved_out : (event : Option E) (k : ℕ) (p r : P) (x : Option P) (m m' m'' : Sat P E R) → m' ≡ (holding m.0 event k (c.meaning p), (k, Some p) ∷ m.1)
      → m'.1 ≡ (k, x) ∷ Rattle.atomic_table.specs.Table.rest m'.1 → x ≡ Some r → m'' ≡ (m'.0, (k, None) ∷ Rattle.atomic_table.specs.Table.rest m'.1)
      → m'' ≡ (holding m.0 event k (c.meaning r), (k, None) ∷ m.1)
  moved_out event k p r x m m' m'' taken found is out =
      let had : Some p ≡ x = same_head k k (Some p) x m.1 (Rattle.atomic_table.specs.Table.rest m'.1) (sym (ap (λ (n : Sat P E R). n.1) taken) ∙ found) in
      let same : p ≡ r = ap (in_some p) (had ∙ is) in
      let emptied : Sat P E R → Sat P E R = λ n. (n.0, (k, None) ∷ Rattle.atomic_table.specs.Table.rest n.1) in let meant : P → Sat P E R = λ q. (holding m.0 event k (c.meaning q), (k, None) ∷ m.1) in
      out ∙ (ap emptied taken ∙ ap meant same)
