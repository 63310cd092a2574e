-- The parts after a first write stand for its journal, and wouldn't without the version that it wrote, nor without the tablet.
use Rattle.std.specs.Option.{option_map}
use Rattle.std.proofs.Common.{◌≡◌, ℕ, true, false, Some, [], ◌∷◌, List, ◌≤◌, ◌+◌, ◌∙◌, inl, inr, refl, arith, ap, sym, subst}
use Rattle.std.proofs.lemmas.Bool.{true≢false, leb-true, ltb-true}
use Rattle.std.proofs.lemmas.Bool.Decides.{nat_tests}
use Rattle.row_values.specs.Elements.{In}
use Rattle.row_values.specs.Ids.{Id}
use Rattle.model.specs.Journal.{owner_in, row_at}
use Rattle.model.specs.Records.{CloneRecord, Copying, Listed}
use Rattle.model.specs.Parts.{Parts}
use Rattle.row_values.specs.Store.{read_of}
use Rattle.model.specs.Stands.{Stands, LiveStands, Cover, CloneStateFacts, HoldsTablet, IsHomeIn, VersionsStand}
use Rattle.model.specs.Activity.{Interval}
use Rattle.model.specs.Stands.{Divides, HasRange}
use Rattle.model.specs.Catalog.{current_table, owner_of}
use Rattle.model.specs.Tablets.{Tablet, Fence, HiddenPart, ServingPart, FrozenSet, emptied, is_empty, is_serving}
use Rattle.model_rows.proofs.Numbers.{none_is_not_one}
use Rattle.model_rows.specs.Computed.{the_book}
use Rattle.model_rows.specs.FirstRead.{changes, written}
use Rattle.model_rows.specs.Scripts.{since, B, K, N, P, T, a, b, early, x}

written_stands_at_one : LiveStands written.parts changes 1
unfolding the_book
written_stands_at_one = record { reads = λ i key time last inside from to before point there. grind (arith, nat_tests) }

-- what is asked of a read can be met
written_read : read_of (written.parts.tablet 1).versions x (early 3) ≡ row_at changes (early 3) (T 1) x
unfolding the_book
written_read = written_stands_at_one.reads (since 2) x (early 3) refl refl (leb-true _ _ refl) (leb-true _ _ refl) refl refl refl

only_slot : (slot : ℕ) → is_empty (written.parts.tablet slot).presence ≡ false → slot ≡ 1
unfolding the_book
only_slot slot here = grind (arith, nat_tests)

nothing_frozen : (slot : ℕ) (f : FrozenSet) → slot ≡ 1 → In f (written.parts.tablet slot).frozen → ⊥
unfolding the_book
nothing_frozen slot f is_one inside = subst (λ s. In f (written.parts.tablet s).frozen) is_one inside

its_activity : written.parts.master.activity ≡ since 2 ∷ []
unfolding the_book
its_activity = refl

its_one : (i : Interval) → In i written.parts.master.activity → since 2 ≡ i
its_one i listed = elim (subst (In i) its_activity listed) [ inl e ↦ e | inr none ↦ absurd none ]

written_held : HoldsTablet (since 2) (written.parts.tablet 1)
unfolding the_book
written_held = record { present = refl; tablet_is = refl; table_is = refl; low_is = refl; high_is = refl }

written_serves : is_serving (written.parts.tablet 1).presence ≡ true
unfolding the_book
written_serves = refl

serving_slot : (slot : ℕ) → is_serving (written.parts.tablet slot).presence ≡ true → slot ≡ 1
unfolding the_book
serving_slot slot here = grind (arith, nat_tests)

written_home : IsHomeIn written.parts.master.activity 1 (written.parts.tablet 1).tablet
unfolding the_book
written_home = record { interval = since 2; kept = inl refl; slot_is = refl; tablet_is = refl }

not_hidden : (at : ℕ) → (written.parts.tablet 1).presence ≡ HiddenPart at → ⊥
unfolding the_book
not_hidden at e = let q : ServingPart ≡ HiddenPart at = e in grind arith

written_owners : (table ns : Id) → owner_in changes table ≡ Some ns → owner_of written.parts.master.catalog.owners table ≡ Some ns
unfolding the_book
written_owners table ns e = grind (arith, nat_tests)

written_stands : Stands written.parts changes
written_stands = record {
  held = λ i listed. subst (λ i. HoldsTablet i (written.parts.tablet i.slot)) (its_one i listed) written_held;
  serves = λ i listed opened came. subst (λ i. is_serving (written.parts.tablet i.slot).presence ≡ true) (its_one i listed) written_serves;
  active = λ slot serving unfenced. (since 2, (subst (In (since 2)) (sym its_activity) (inl refl), (sym (serving_slot slot serving), refl)));
  home = λ slot here. inl (subst (λ s. IsHomeIn written.parts.master.activity s (written.parts.tablet s).tablet) (sym (only_slot slot here)) written_home);
  hidden = λ i at listed hides came. absurd (not_hidden at (subst (λ i. (written.parts.tablet i.slot).presence ≡ HiddenPart at) (sym (its_one i listed)) hides));
  owners = written_owners;
  live = λ slot here. subst (λ s. LiveStands written.parts changes s) (sym (only_slot slot here)) written_stands_at_one;
  frozen = λ slot f here inside. absurd (nothing_frozen slot f (only_slot slot here) inside);
}

-- the tablet without its version doesn't stand

abbrev lost : Parts
lost = record written.parts { tablet = λ slot. record (written.parts.tablet slot) { versions = [] } }

lost_version : LiveStands lost changes 1 → ⊥
unfolding the_book
lost_version stands =
    let e = stands.reads (since 2) x (early 3) refl refl (leb-true _ _ refl) (leb-true _ _ refl) refl refl refl in true≢false (sym (ap (λ row. row.present) e))

-- nor do parts whose tablet is gone, is another's or goes unserved, though its reads are those of the journal

abbrev with_part : (Tablet → Tablet) → Parts
with_part f = record written.parts { tablet = λ slot. f (written.parts.tablet slot) }

gone_part : Stands (with_part (λ t. emptied t.clock)) changes → ⊥
unfolding the_book
gone_part stands = true≢false (stands.held (since 2) (inl refl)).present

of_another : Stands (with_part (λ t. record t { tablet = B 2 })) changes → ⊥
unfolding the_book
of_another stands = let e = (stands.held (since 2) (inl refl)).tablet_is in grind arith

unserved : Stands (with_part (λ t. record t { presence = HiddenPart 0 })) changes → ⊥
unfolding the_book
unserved stands = true≢false (sym (stands.serves (since 2) (inl refl) refl refl))

-- nor does a part that takes writes where the master has no active tablet

abbrev forgotten : Parts
forgotten = record written.parts { master = record written.parts.master { activity = [] } }

never_active : Stands forgotten changes → ⊥
unfolding the_book
never_active stands = (stands.active 1 refl refl).1.0

-- nor does a slot whose tablet the master doesn't know, and a catalog that has the table in another namespace

abbrev of_nobody : Parts
of_nobody = record written.parts { tablet = λ slot. record (written.parts.tablet slot) { tablet = B (slot + 1); fence = Some (N 9) } }

unknown_tablet : Stands of_nobody changes → ⊥
unfolding the_book
unknown_tablet stands = elim (stands.home 1 refl) [ inl h ↦ by h.interval h.kept h.tablet_is | inr h ↦ h.kept ]
  where
    by : (i : Interval) → In i (since 2 ∷ []) → i.tablet ≡ B 2 → ⊥
    by i (inl e) is = let q : B 1 ≡ B 2 = ap (λ i. i.tablet) e ∙ is in grind arith
    by i (inr none) is = none

abbrev owned_wrongly : Parts
owned_wrongly = record written.parts {
  master = record written.parts.master {
    catalog = record written.parts.master.catalog { owners = record { table = T 1; namespace = N 2 } ∷ [] };
  };
}

wrong_owner : Stands owned_wrongly changes → ⊥
unfolding the_book
wrong_owner stands = let e = stands.owners (T 1) (N 1) refl in grind arith

-- nor is a clone's target that is acked, and none of its pairs

abbrev target : Listed
target = record { tablet = B 2; slot = 2; body = Fence; acked = true }

abbrev of_no_pair : CloneRecord
of_no_pair = record {
  id = K 1;
  source = N 1;
  source_name = a;
  target = b;
  target_id = N 2;
  tables = [];
  tablets = [];
  to = early 3;
  listed = target ∷ [];
  state = Copying (P 1) (early 5);
}

copied_nothing : CloneStateFacts of_no_pair.state of_no_pair written.parts changes → ⊥
copied_nothing facts = (facts target (inl refl) refl).paired

-- a part's version is that of its table's current schema, and no other

its_version : option_map (λ r. r.schema.version) (current_table written.parts.master.catalog.tables (T 1)) ≡ Some (written.parts.tablet 1).version
unfolding the_book
its_version = refl

written_versions : VersionsStand written.parts
written_versions = λ i listed opened came.
    subst (λ i. option_map (λ r. r.schema.version) (current_table written.parts.master.catalog.tables i.table) ≡ Some (written.parts.tablet i.slot).version) (its_one i listed) its_version

not_told_of_a_column : VersionsStand (with_part (λ t. record t { version = 2 })) → ⊥
unfolding the_book
not_told_of_a_column stands = let e = stands (since 2) (inl refl) refl refl in grind arith

written_covers : Cover written.parts.master.activity changes
unfolding the_book
written_covers = λ table code time below there. grind (arith, nat_tests)

-- ranges that leave codes out don't cover
gap_in_cover : Cover (record (since 2) { high = 30000 } ∷ []) changes → ⊥
gap_in_cover covers = none_is_not_one (covers (T 1) 40000 (early 3) (ltb-true _ _ refl) refl)

-- a range that ends beyond the codes covers them, but doesn't divide them

abbrev too_wide : List Interval
too_wide = record (since 2) { high = 70000 } ∷ []

wide_covers : Cover too_wide changes
unfolding the_book
wide_covers = λ table code time below there. grind (arith, nat_tests)

beyond_the_codes : Divides too_wide changes → ⊥
beyond_the_codes divides = let within : 70000 ≤ 65536 = (divides.ranges (record (since 2) { high = 70000 }) (inl refl)).1 in omega arith

written_divides : Divides written.parts.master.activity changes
unfolding the_book
written_divides = record { cover = written_covers; ranges = λ i inside. whole i inside }
  where
    whole : (i : Interval) → In i (since 2 ∷ []) → HasRange i
    whole i (inl e) = subst HasRange e (ltb-true 0 65536 refl, leb-true 65536 65536 refl)
    whole i (inr inside) = absurd inside
