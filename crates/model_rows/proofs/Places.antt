-- Which tablet holds a code now, and which held it at a time: at both ends of ranges, and of activity.
use Rattle.std.proofs.lemmas.Bool.{true≢false}
use Rattle.std.proofs.Common.{Some, Bool, true, false, cond, ap, sym, ◌&&◌, ◌≡◌, ℕ, List, [], ◌∷◌, ◌++◌, map, Option, refl}
use Rattle.std.specs.Option.{option_map_or}
use Rattle.model.specs.Activity.{Interval, active_at, route}
use Rattle.model.specs.Times.{is_open}
use Rattle.row_values.specs.Elements.{AllOf}
use Rattle.row_values.specs.Ids.{Id, same}
use Rattle.row_values.specs.Ranges.{in_range}
use Rattle.std.specs.List.{filter, find}
use Rattle.model.specs.Acts.{CreateTable, DropTable, Split}
use Rattle.model.specs.Looks.{holding}
use Rattle.model.specs.Parts.{Master}
use Rattle.model_rows.specs.Computed.{the_book}
use Rattle.model_rows.specs.Runs.{after, begun}
use Rattle.model_rows.specs.Scripts.{T, a, create_namespace, early, new_int, planned_change, ready, restore, settle, t, tick, v}

-- the number of the tablet, 0 where there is none
abbrev number_of : Option Interval → ℕ
number_of i = option_map_or (λ j. j.tablet.number) i 0

abbrev now : Master → List ℕ → List ℕ
now m codes = map (λ code. number_of (holding m (T 1) code)) codes

abbrev then : Master → ℕ → List ℕ → List ℕ
then m logical codes = map (λ code. number_of (route m.activity (T 1) code (early logical))) codes

-- three tablets: a code is in one range, and the end of a range is not in it

abbrev thirds : Master
thirds = (after (tick 1000000 ++ create_namespace a ++ planned_change (CreateTable a t 3 (new_int v ∷ [])) (1 ∷ 2 ∷ 3 ∷ [])) (begun 64)).parts.master

abbrev edges : List ℕ
edges = 0 ∷ 21844 ∷ 21845 ∷ 43689 ∷ 43690 ∷ 65535 ∷ 65536 ∷ []

held_by_thirds : now thirds edges ≡ 1 ∷ 1 ∷ 2 ∷ 2 ∷ 3 ∷ 3 ∷ 0 ∷ []
unfolding the_book
held_by_thirds = refl

-- from the stamp on at which the table was made, and not before
routed_before : then thirds 1 edges ≡ 0 ∷ 0 ∷ 0 ∷ 0 ∷ 0 ∷ 0 ∷ 0 ∷ []
unfolding the_book
routed_before = refl

routed_from_its_stamp : then thirds 2 edges ≡ now thirds edges
unfolding the_book
routed_from_its_stamp = refl

no_other_table : map (λ code. number_of (holding thirds (T 2) code)) edges ≡ 0 ∷ 0 ∷ 0 ∷ 0 ∷ 0 ∷ 0 ∷ 0 ∷ []
unfolding the_book
no_other_table = refl

-- a split: the parent up to its stamp, the children from there on

abbrev divided : Master
divided = (after (planned_change (Split a t 1000) (1 ∷ 2 ∷ 3 ∷ [])) ready).parts.master

abbrev around : List ℕ
around = 0 ∷ 999 ∷ 1000 ∷ 65535 ∷ 65536 ∷ []

held_by_children : now divided around ≡ 2 ∷ 2 ∷ 3 ∷ 3 ∷ 0 ∷ []
unfolding the_book
held_by_children = refl

routed_to_the_parent : then divided 2 around ++ then divided 4 around ≡ 1 ∷ 1 ∷ 1 ∷ 1 ∷ 0 ∷ 1 ∷ 1 ∷ 1 ∷ 1 ∷ 0 ∷ []
unfolding the_book
routed_to_the_parent = refl

routed_to_the_children : then divided 5 around ++ then divided 99 around ≡ now divided around ++ now divided around
unfolding the_book
routed_to_the_children = refl

-- a dropped table has no place now; at the times before it had one

abbrev dropped : Master
dropped = (after (planned_change (DropTable a t) (1 ∷ [])) ready).parts.master

held_by_none : now dropped around ≡ 0 ∷ 0 ∷ 0 ∷ 0 ∷ 0 ∷ []
unfolding the_book
held_by_none = refl

routed_until_the_drop : then dropped 4 around ++ then dropped 5 around ≡ 1 ∷ 1 ∷ 1 ∷ 1 ∷ 0 ∷ 0 ∷ 0 ∷ 0 ∷ 0 ∷ 0 ∷ []
unfolding the_book
routed_until_the_drop = refl

-- over a restore to before the split, whose point is 14, each time has its own place

abbrev back : Master
back = (after (planned_change (Split a t 1000) (1 ∷ 2 ∷ 3 ∷ []) ++ restore (early 4) ++ settle) ready).parts.master

held_by_the_parent : now back around ≡ 1 ∷ 1 ∷ 1 ∷ 1 ∷ 0 ∷ []
unfolding the_book
held_by_the_parent = refl

routed_before_the_split : then back 4 around ≡ 1 ∷ 1 ∷ 1 ∷ 1 ∷ 0 ∷ []
unfolding the_book
routed_before_the_split = refl

routed_while_divided : then back 5 around ++ then back 13 around ≡ 2 ∷ 2 ∷ 3 ∷ 3 ∷ 0 ∷ 2 ∷ 2 ∷ 3 ∷ 3 ∷ 0 ∷ []
unfolding the_book
routed_while_divided = refl

routed_from_the_point : then back 14 around ≡ 1 ∷ 1 ∷ 1 ∷ 1 ∷ 0 ∷ []
unfolding the_book
routed_from_the_point = refl

-- at a time by which all kept activity has begun, and what has ended has ended, a code's place is that of the active tablet
abbrev IsPast : ℕ → Interval → Type 0
IsPast x i = active_at x i ≡ is_open i.to

one_more : (active now here : Bool) (i : Interval) (code : ℕ) (is : List Interval) (found : Option Interval) → active ≡ now
    → found ≡ find (λ j. in_range j.low j.high code) is
    → cond (here && (active && in_range i.low i.high code)) (Some i) found ≡ find (λ j. in_range j.low j.high code) (cond (now && here) (i ∷ is) is)
one_more true true true i code is found same e = ap (λ r. cond (in_range i.low i.high code) (Some i) r) e
one_more true true false i code is found same e = e
one_more false false true i code is found same e = e
one_more false false false i code is found same e = e
one_more true false here i code is found same e = absurd (true≢false same)
one_more false true here i code is found same e = absurd (true≢false (sym same))

route_is_holding : (is : List Interval) (table : Id) (code x : ℕ) → AllOf (IsPast x) is
    → route is table code x ≡ find (λ i. in_range i.low i.high code) (filter (λ i. is_open i.to && same i.table table) is)
route_is_holding [] table code x past = refl
route_is_holding (i ∷ is) table code x past =
    one_more (active_at x i) (is_open i.to) (same i.table table) i code _ _ past.0 (route_is_holding is table code x past.1)

routed_now : (m : Master) (table : Id) (code x : ℕ) → AllOf (IsPast x) m.activity → route m.activity table code x ≡ holding m table code
routed_now m table code x past = route_is_holding m.activity table code x past
