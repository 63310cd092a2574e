-- Cutting a view in two, and joining two, keep the rule.
use Rattle.std.proofs.Common.{◌≡◌, ℕ, ◌+◌, ◌≤◌, List, [], ◌∷◌, ◌++◌, set, refl, sym, ap, subst, arith, ⊎_elim, ◌∙◌}
use Rattle.std.specs.Prelude.{cond, nat_eq}
use mathlib.Core.Option.{some}
use mathlib.Core.List.{IsPrefix}
use lib.ListN.{get_elem?}
use Rattle.atomic_table.specs.Table.{Splits, Joins}
use Rattle.atomic_table.proofs.Lists.{at_set, at_snoc, set_else}
use Rattle.step_table.specs.declared.known.Entry.{Entry}
use Rattle.step_table.specs.declared.known.Known.{Known}
use Rattle.step_table.specs.Lists.{total, In}
use Rattle.step_table.specs.Machines.{Core}
use Rattle.step_table.specs.Rule.{times, Sound, Stands, spent, IsOld}
use Rattle.step_table.specs.Cuts.{cut_left, cut_right, glued, longer}
use Rattle.step_table.proofs.Lists.{every_map, every_append, in_prefix}
use Rattle.step_table.proofs.Totals.{total_set, total_two, total_append}
use Rattle.step_table.proofs.Merges.{total_merged, every_merged, rising_merged, counted_once, longer_both, longer_first, longer_second, counted}

module _ {P E D R F : Type 0} (c : Core P E D R F) (given : List P) where
  pub splits : (id : ℕ) (v : Known P E R) → 2 ≤ v.shares → Splits (Stands c given) id v (cut_left v) (cut_right v)
  splits id v two s h at =
      let f = h.each id v at in
      let l = cut_left v in
      let r = cut_right v in
      let sums : (g : Known P E R → ℕ) → g l + g r ≡ g v → total g (set s.views id l ++ r ∷ []) ≡ total g s.views = λ g e.
      let t = total_set g s.views id v l at in let a = total_append g (set s.views id l) (r ∷ []) in omega arith in
      let left_fits : Sound c given h.since l = record {
        given_is = λ n. f.given_is (λ z. absurd (omega arith));
        seen_in = f.seen_in;
        olds_in = f.olds_in;
        mine_in = f.mine_in;
        mine_rise = f.mine_rise;
        shows = f.shows;
        spent_is = λ z. absurd (omega arith);
      } in
      let right_fits : Sound c given h.since r = record {
        given_is = λ n. f.given_is (λ z. absurd (omega arith));
        seen_in = f.seen_in;
        olds_in = tt;
        mine_in = tt;
        mine_rise = tt;
        shows = tt;
        spent_is = λ z. absurd (omega arith);
      } in record {
        start = h.start;
        begun = h.begun;
        since = h.since;
        right = h.right;
        legal = h.legal;
        past = h.past;
        up = h.up;
        wide = h.wide;
        deep = h.deep;
        same = h.same;
        order = h.order;
        places = h.places;
        locks = λ k lt. sums (λ (u : Known P E R). times k u.held) (omega arith) ∙ h.locks k lt;
        each = λ j u here. ⊎_elim (λ (t : _). ⊎_elim (λ (w : _). subst (Sound c given h.since) w.1 left_fits) (λ (w : _). h.each j u w.1) (at_set s.views id j l u t)) (λ (t : _). subst (Sound c given h.since) t right_fits) (at_snoc (set s.views id l) r u j here);
        shares = sums (λ (u : Known P E R). u.shares) (omega arith) ∙ h.shares;
        mine = λ g. sums (λ (u : Known P E R). total g u.mine) (omega arith) ∙ h.mine g;
      }

  pub joins : (id other : ℕ) (v w : Known P E R) → ¬ (v.shares ≡ 0) → ¬ (w.shares ≡ 0) → w.held ≡ [] → Joins (Stands c given) id v other w (glued v w) spent
  joins id other v w part part' empty s h at apart there =
      let b = glued v w in
      let at' : get_elem? s.views other ≡ some w = sym (set_else s.views id other b apart) ∙ there in
      let f = h.each id v at in
      let e = h.each other w at' in
      let sums : (g : Known P E R → ℕ) → g b + g (spent {P = P} {E = E} {R = R}) ≡ g v + g w → total g (set (set s.views id b) other spent) ≡ total g s.views = λ g q.
      let t = total_set g s.views id v b at in let a = total_set g (set s.views id b) other w spent there in omega arith in
      let once : (n : ℕ) → counted n v.mine + counted n w.mine ≤ 1 = λ n.
      let two = total_two (λ (u : Known P E R). counted n u.mine) s.views id other v w (λ z. apart (sym z)) at at' in
      let m : total (λ (u : Known P E R). counted n u.mine) s.views ≡ counted n h.since = h.mine (λ (x : Entry E R). cond {A = ℕ} (nat_eq n x.number) 1 0) in
      let o = counted_once n h.since h.up in omega arith in
      let both_fits : Sound c given h.since b = record {
        given_is = λ n. f.given_is part;
        seen_in = longer_both (λ es. IsPrefix es h.since) v.seen w.seen f.seen_in e.seen_in;
        olds_in = ((f.given_is part, f.seen_in), ((e.given_is part', e.seen_in), every_append (IsOld given h.since) v.olds w.olds f.olds_in e.olds_in));
        mine_in = every_merged (λ x. In x (longer v.seen w.seen)) v.mine w.mine
            (every_map (λ x. In x v.seen) (λ x. In x (longer v.seen w.seen)) (λ x. in_prefix x v.seen (longer v.seen w.seen) (longer_first v.seen w.seen h.since f.seen_in e.seen_in)) v.mine f.mine_in)
            (every_map (λ x. In x w.seen) (λ x. In x (longer v.seen w.seen)) (λ x. in_prefix x w.seen (longer v.seen w.seen) (longer_second v.seen w.seen h.since f.seen_in e.seen_in)) w.mine e.mine_in);
        mine_rise = rising_merged v.mine w.mine f.mine_rise once;
        shows = f.shows;
        spent_is = λ z. absurd (omega arith);
      } in
      let spent_fits : Sound c given h.since spent = record {
        given_is = λ n. absurd (n refl);
        seen_in = (h.since, refl);
        olds_in = tt;
        mine_in = tt;
        mine_rise = tt;
        shows = tt;
        spent_is = λ z. refl;
      } in record {
        start = h.start;
        begun = h.begun;
        since = h.since;
        right = h.right;
        legal = h.legal;
        past = h.past;
        up = h.up;
        wide = h.wide;
        deep = h.deep;
        same = h.same;
        order = h.order;
        places = h.places;
        locks = λ k lt. sums (λ (u : Known P E R). times k u.held) (let z : times k w.held ≡ 0 = ap (times k) empty in omega arith) ∙ h.locks k lt;
        each = λ j u here. ⊎_elim (λ (t : _). subst (Sound c given h.since) t.1 spent_fits) (λ (t : _). ⊎_elim (λ (x : _). subst (Sound c given h.since) x.1 both_fits) (λ (x : _). h.each j u x.1) (at_set s.views id j b u t.1)) (at_set (set s.views id b) other j spent u here);
        shares = sums (λ (u : Known P E R). u.shares) (omega arith) ∙ h.shares;
        mine = λ g. sums (λ (u : Known P E R). total g u.mine) (let m = total_merged g v.mine w.mine in omega arith) ∙ h.mine g;
      }
