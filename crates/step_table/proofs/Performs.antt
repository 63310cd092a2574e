-- What a seat knows before and after its commit.
use Rattle.std.proofs.Common.{◌≡◌, ℕ, suc, ◌<◌, ◌⊎◌, List, [], ◌∷◌, ◌++◌, map, refl, sym, ap, subst, arith, length, ◌∙◌, inl, inr}
use Rattle.std.specs.Prelude.{Option, Some, IfOk}
use Rattle.std.proofs.Common.{Result, Ok, Err}
use mathlib.Core.Option as maybe
use mathlib.Core.List.{IsPrefix}
use Rattle.atomic_table.specs.Table.{step}
use Rattle.step_table.specs.declared.known.Known.{Known}
use Rattle.step_table.specs.Lists.{fst, snd, Every, In, pick, pair}
use Rattle.step_table.specs.Helds.{slots_of, parts_of}
use Rattle.step_table.specs.Machines.{Core, Lawful, leaves, touched, entry_of}
use Rattle.step_table.specs.Rule.{Announces}
use Rattle.step_table.specs.Plays.{Sat, IsBusyWith, Knows, looked, committed}
use Rattle.step_table.specs.Seats.{IsAlike, IsOut, HasOut, IsBack, IsSame, meant, Performed, Declined}
use Rattle.step_table.proofs.Lists.{prefix_self, prefix_then, every_self}
use Rattle.step_table.proofs.Outs.{slots_meant, parts_meant, paired_meant}

module _ {P E D R F : Type 0} (c : Core P E D R F) where
  -- the seat has seen the history so far, and its event's parts are out
  pub record AfterLook (e : E) (items : List (ℕ × P)) (m m' : Sat P E R) : Type 0 where
    pub slots : slots_of items ≡ c.touches e
    pub fits : c.Fits (map c.meaning (parts_of items)) e
    pub doing : m'.0.doing ≡ Some e
    pub fsts : map fst m'.0.held ≡ c.touches e
    pub snds : map snd m'.0.held ≡ map c.meaning (parts_of items)
    pub picked : map c.meaning (parts_of items) ≡ touched c (leaves c m'.0.given m'.0.seen) e
    pub later : IsPrefix m.0.seen m'.0.seen
    pub given : m'.0.given ≡ m.0.given
    pub shares : m'.0.shares ≡ m.0.shares
    pub splits : m'.0.splits ≡ m.0.splits
    pub mine : m'.0.mine ≡ m.0.mine
    pub findings : m'.0.findings ≡ m.0.findings
    pub out : HasOut c m' items
    pub knows : Knows c m'.0

  busy_is : (event : Option E) (v : Known P E R) (items : List (ℕ × P)) → IsBusyWith v event → v.held ≡ meant c items → 0 < length (slots_of items) → v.doing ≡ event
  busy_is event v items (inr doing) held some = doing
  busy_is event v [] (inl empty) held some = absurd (omega arith)
  busy_is event v (x ∷ xs) (inl empty) held some = absurd (let l : length (meant c (x ∷ xs)) ≡ 0 = ap length (sym held ∙ empty) in omega arith)

  pub after_look : (laws : Lawful c) (event : Option E) (e : E) (slots n : ℕ) (items : List (ℕ × P)) (m m' : Sat P E R) → looked c (step slots 0 0 0 maybe.none) m n m' → IsOut c event m items
      → event ≡ Some e → c.May slots e → slots_of items ≡ c.touches e → AfterLook e items m m'
  after_look laws event e slots n items m m' told out named may touches =
      let is = told.0 in
      let sees = told.3 in
      let held : m'.0.held ≡ meant c items = ap (λ (x : Sat P E R). x.0.held) is ∙ out.out.shown in
      let fsts : map fst m'.0.held ≡ c.touches e = ap (map fst) held ∙ (slots_meant c items ∙ touches) in
      let snds : map snd m'.0.held ≡ map c.meaning (parts_of items) = ap (map snd) held ∙ parts_meant c items in
      let given : m'.0.given ≡ m.0.given = ap (λ (x : Sat P E R). x.0.given) is in
      let parts = leaves c m'.0.given m'.0.seen in
      let picked : map c.meaning (parts_of items) ≡ touched c parts e = sym snds ∙ (sees.parts ∙ ap (λ xs. pick xs parts) fsts) in
      let may_here : c.May (length parts) e = subst (λ k. c.May k e) (sym (sees.same ∙ (ap length given ∙ told.5))) may in record {
        slots = touches;
        fits = subst (λ ps. c.Fits ps e) (sym picked) (laws.fits parts e sees.legal may_here);
        doing = ap (λ (x : Sat P E R). x.0.doing) is ∙ (busy_is event m.0 items out.busy out.out.shown (let s = laws.some slots e may in let t = ap length touches in omega arith) ∙ named);
        fsts = fsts;
        snds = snds;
        picked = picked;
        later = told.1;
        given = given;
        shares = ap (λ (x : Sat P E R). x.0.shares) is;
        splits = ap (λ (x : Sat P E R). x.0.splits) is;
        mine = ap (λ (x : Sat P E R). x.0.mine) is;
        findings = ap (λ (x : Sat P E R). x.0.findings) is;
        out = record { shown = held; carried = ap (λ (x : Sat P E R). x.1) is ∙ out.out.carried };
        knows = sees.knows;
      }

  -- parts that mean what they did, in the same slots, are out as before
  pub still_out : (m : Sat P E R) (items other : List (ℕ × P)) → HasOut c m items → slots_of other ≡ slots_of items → map c.meaning (parts_of other) ≡ map c.meaning (parts_of items) → HasOut c m other
  still_out m items other out slots parts = record {
    shown = out.shown ∙ (paired_meant c items ∙ (ap (λ ks. pair ks (map c.meaning (parts_of items))) (sym slots) ∙ (ap (λ ps. pair (slots_of other) ps) (sym parts) ∙ sym (paired_meant c other))));
    carried = out.carried ∙ ap (λ ks. Rattle.step_table.specs.Seats.backwards ks []) (sym slots);
  }

  pub declined : (e : E) (items : List (ℕ × P)) (f : F) (m m' m'' : Sat P E R) → AfterLook e items m m' → IsBack m' m'' → (f ≡ c.no_memory) ⊎ (c.refusal (map c.meaning (parts_of items)) e ≡ Some f) → Declined c e f m.0 m''.0
  declined e items f m m' m'' a back why = record {
    later = subst (IsPrefix m.0.seen) (sym back.alike.seen) a.later;
    made = back.alike.mine ∙ a.mine;
    cause = subst (λ g. (f ≡ c.no_memory) ⊎ (c.refusal (touched c (leaves c g m''.0.seen) e) e ≡ Some f)) (sym back.alike.given)
        (subst (λ es. (f ≡ c.no_memory) ⊎ (c.refusal (touched c (leaves c m'.0.given es) e) e ≡ Some f)) (sym back.alike.seen)
        (subst (λ ps. (f ≡ c.no_memory) ⊎ (c.refusal ps e ≡ Some f)) a.picked why));
  }

  -- after the commit the parts are out as the machine leaves them
  pub commit_out : (e : E) (n slots : ℕ) (items other : List (ℕ × P)) (m m' m'' : Sat P E R) → AfterLook e items m m' → committed c (Some e) (step slots 0 1 0 maybe.none) m' n m''
      → slots_of other ≡ slots_of items → map c.meaning (parts_of other) ≡ c.after (map c.meaning (parts_of items)) e (suc n) → HasOut c m'' other
  commit_out e n slots items other m m' m'' a told slots_same parts =
      let is = (told e refl).2 in record {
        shown = ap (λ (x : Sat P E R). x.0.held) is ∙ (ap (λ ps. pair (c.touches e) (c.after ps e (suc n))) a.snds ∙ (ap (λ ps. pair (c.touches e) ps) (sym parts)
            ∙ (ap (λ ks. pair ks (map c.meaning (parts_of other))) (sym (slots_same ∙ a.slots)) ∙ sym (paired_meant c other))));
        carried = ap (λ (x : Sat P E R). x.1) is ∙ (a.out.carried ∙ ap (λ ks. Rattle.step_table.specs.Seats.backwards ks []) (sym slots_same));
      }

  pub performed : (e : E) (r : R) (n slots : ℕ) (items : List (ℕ × P)) (m m' m'' m3 : Sat P E R) → AfterLook e items m m' → committed c (Some e) (step slots 0 1 0 maybe.none) m' n m'' → IsBack m'' m3
      → r ≡ c.reply (map c.meaning (parts_of items)) e (suc n) → Performed c e r m.0 m3.0
  performed e r n slots items m m' m'' m3 a told back reply =
      let t = told e refl in
      let is = t.2 in record {
        entry = entry_of c (map snd m'.0.held) e (suc n);
        event = refl;
        reply = ap (λ ps. c.reply ps e (suc n)) a.snds ∙ sym reply;
        made = back.alike.mine ∙ (ap (λ (x : Sat P E R). x.0.mine) is ∙ ap (λ xs. xs ++ entry_of c (map snd m'.0.held) e (suc n) ∷ []) a.mine);
        before = t.0;
        seen = back.alike.seen ∙ ap (λ (x : Sat P E R). x.0.seen) is;
        later = prefix_then m.0.seen m'.0.seen t.0 a.later t.1;
      }

  pub knows_alike : (v w : Known P E R) → IsAlike v w → Knows c v → Knows c w
  knows_alike v w a k = record {
    start = subst c.Legal (sym a.given) k.start;
    begun = subst (λ g. Rattle.step_table.specs.Histories.IsNumbered 1 (Rattle.step_table.specs.Histories.history_of c g)) (sym a.given) k.begun;
    right = subst (λ es. Rattle.step_table.specs.Machines.IsRight c w.given es) (sym a.seen) (subst (λ g. Rattle.step_table.specs.Machines.IsRight c g v.seen) (sym a.given) k.right);
    mine = subst (λ es. Every (λ e. In e w.seen) es) (sym a.mine) (subst (λ es. Every (λ e. In e es) v.mine) (sym a.seen) k.mine);
  }

  pub announces_all : (event : Option E) (e : E) (ks : List ℕ) → event ≡ Some e → ks ≡ c.touches e → Every (Announces c event) ks
  announces_all event e ks named is = subst (λ v. Every (Announces c v) ks) (sym named) (subst (λ xs. Every (λ k. In k xs) ks) is (every_self ks))

  pub performed_later : (e : E) (r : R) (u v w : Known P E R) → IsAlike u v → Performed c e r v w → Performed c e r u w
  performed_later e r u v w a p = record {
    entry = p.entry;
    event = p.event;
    reply = p.reply;
    made = p.made ∙ ap (λ xs. xs ++ p.entry ∷ []) a.mine;
    before = p.before;
    seen = p.seen;
    later = subst (λ es. IsPrefix es p.before) a.seen p.later;
  }

  pub declined_later : (e : E) (f : F) (u v w : Known P E R) → IsAlike u v → Declined c e f v w → Declined c e f u w
  declined_later e f u v w a d = record { later = subst (λ es. IsPrefix es w.seen) a.seen d.later; made = d.made ∙ a.mine; cause = d.cause }

  pub declined_at_once : (e : E) (f : F) (v : Known P E R) → f ≡ c.no_memory → Declined c e f v v
  declined_at_once e f v is = record { later = prefix_self v.seen; made = refl; cause = inl is }

pub ok_then : {A B : Type 0} (F G : A → Type 0) (r : Result A B) → ((x : A) → F x → G x) → IfOk r F → IfOk r G
ok_then F G (Ok x) f h = f x h
ok_then F G (Err x) f h = tt
