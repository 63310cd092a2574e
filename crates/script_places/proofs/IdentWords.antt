-- What an identifier's word is read as.
use Rattle.std.specs.Str.{IsUtf8}
use Rattle.std.proofs.lemmas.Str.{IsUtf8-from_ascii}
use Rattle.std.proofs.Common.{◌≡◌, ◌≢◌, ℕ, Bool, true, false, ◌&&◌, cond, List, ◌∷◌, drop, Option, Some, None, Result, Ok, refl, sym, ap, subst, ◌∙◌}
use Rattle.std.specs.Prelude.{nat_le, nat_lt, bytes_eq}
use Rattle.std.specs.Int.{w64, from_be_bytes}
use Rattle.std.proofs.lemmas.Bool.{and_parts, and_from}
use Rattle.uuid.specs.Text.{parsed}
use Rattle.row_values.specs.Ids.{Kind, Id, IsId, id_bound}
use Rattle.yb_ident.specs.Layout.{layout, Reads}
use Rattle.yb_ident.proofs.Numbers.{number_back}
use Rattle.script_places.specs.Words.{Word}
use Rattle.script_places.specs.Identifiers.{numbered_by, lies_in, ident_in, ident_of}
use Rattle.script_places.specs.Spelling.{WritesIdent}
use Rattle.script_places.specs.Grammar.{IsIdentifier}
use Rattle.script_places.proofs.AsciiTexts.{parsed_ascii}
use Rattle.script_places.proofs.Cuts.{at_most, is_at_most, below, is_below, same_words, words_same}

-- what lies in the bytes of a UUID
lies_is : (bytes : List ℕ) (i : Id) → lies_in bytes i ≡ true → IsId i × (bytes ≡ layout i)
lies_is bytes i e =
    let p = and_parts (nat_le 1 i.number && nat_lt i.number id_bound) (bytes_eq bytes (layout i)) e in
    let q = and_parts (nat_le 1 i.number) (nat_lt i.number id_bound) p.0 in
    ((at_most 1 i.number q.0, below i.number id_bound q.1), same_words bytes (layout i) p.1)

lies_again : (i : Id) → IsId i → lies_in (layout i) i ≡ true
lies_again i is =
    and_from (nat_le 1 i.number && nat_lt i.number id_bound) (bytes_eq (layout i) (layout i))
    (and_from (nat_le 1 i.number) (nat_lt i.number id_bound) (is_at_most 1 i.number is.0) (is_below i.number id_bound is.1))
    (words_same (layout i) (layout i) refl)

abbrev found : Id → Option Id
found i = Some i

same_found : (i j : Id) → found i ≡ found j → i ≡ j
same_found i j e = cc

abbrev bytes_found : List ℕ → Option (List ℕ)
bytes_found bytes = Some bytes

ident_if : (w : Word) (bytes : List ℕ) (i j : Id) (kind : Kind) (test : Bool) → parsed w ≡ Some bytes → i.kind ≡ kind → lies_in bytes i ≡ test
    → cond test (found i) None ≡ Some j → WritesIdent kind j w
ident_if w bytes i j kind true is of lies e =
    let l = lies_is bytes i lies in
    subst (λ (k : Id). WritesIdent kind k w) (same_found i j e) (of, (l.0, is ∙ ap bytes_found l.1))
ident_if w bytes i j kind false is of lies e = absurd cc

ident_by : (kind : Kind) (w : Word) (o : Option (List ℕ)) (i : Id) → parsed w ≡ o → ident_in kind o ≡ Some i → WritesIdent kind i w
ident_by kind w None i is e = absurd cc
ident_by kind w (Some bytes) i is e =
    ident_if w bytes (numbered_by kind bytes) i kind (lies_in bytes (numbered_by kind bytes)) is refl refl e

pub ident_is : (kind : Kind) (w : Word) (i : Id) → ident_of kind w ≡ Some i → WritesIdent kind i w
unfolding ident_of
ident_is kind w i e = ident_by kind w (parsed w) i refl e

again_by : (kind : Kind) (i : Id) (n : ℕ) → i.kind ≡ kind → n ≡ i.number → record { kind = kind; number = n } ≡ i
again_by kind i n of number =
    ap (λ (k : Kind). record { kind = k; number = n }) (sym of) ∙ ap (λ (m : ℕ). record { kind = i.kind; number = m }) number

lies_if : (bytes : List ℕ) (i j : Id) → i ≡ j → lies_in bytes j ≡ true → cond (lies_in bytes i) (found i) None ≡ Some j
lies_if bytes i j same lies = ap (λ (k : Id). cond (lies_in bytes k) (found k) None) same ∙ ap (λ (b : Bool). cond b (found j) None) lies

pub ident_again : (kind : Kind) (i : Id) (w : Word) → WritesIdent kind i w → ident_of kind w ≡ Some i
unfolding ident_of
ident_again kind i w is =
    let same : numbered_by kind (layout i) ≡ i = again_by kind i (from_be_bytes w64 (0 ∷ 0 ∷ drop 10 (layout i))) is.0 (number_back i.number is.1.0.1) in
    ap (ident_in kind) is.1.1 ∙ lies_if (layout i) (numbered_by kind (layout i)) i same (lies_again i is.1.0)

pub ident_not : (kind : Kind) (w : Word) → ident_of kind w ≡ None → ¬ (IsIdentifier kind w)
ident_not kind w none is = absurd (let e : None ≡ found is.0 = sym none ∙ ident_again kind is.0 w is.1 in cc)

none_by : (kind : Kind) (w : Word) (o : Option Id) → ident_of kind w ≡ o → ¬ (IsIdentifier kind w) → o ≡ None
none_by kind w None is none = refl
none_by kind w (Some i) is none = absurd (none (i, ident_is kind w i is))

pub no_ident : (kind : Kind) (w : Word) → ¬ (IsIdentifier kind w) → ident_of kind w ≡ None
no_ident kind w none = none_by kind w (ident_of kind w) refl none

-- what reading a text as an identifier tells
pub none_of_text : (kind : Kind) (w : Word) → ¬ (IsUtf8 w) → ident_of kind w ≡ None
none_of_text kind w none = no_ident kind w (λ is. none (IsUtf8-from_ascii w (parsed_ascii w (layout is.0) is.1.1.1)))

pub none_refused : (kind : Kind) (w : Word) → ((i : Id) → IsId i → parsed w ≢ Some (layout i)) → ident_of kind w ≡ None
none_refused kind w none = no_ident kind w (λ is. none is.0 is.1.1.0 is.1.1.1)

abbrev read_ok : (E : Type 0) → Id → Result Id E
read_ok E i = Ok i

same_read : (E : Type 0) (i j : Id) → read_ok E i ≡ read_ok E j → i ≡ j
same_read E i j e = cc

pub none_of_kind : (E : Type 0) (kind : Kind) (w : Word) (i : Id) → ((j : Id) → Reads w j → read_ok E i ≡ read_ok E j) → ¬ (i.kind ≡ kind) → ident_of kind w ≡ None
none_of_kind E kind w i only other =
    no_ident kind w (λ is. let same = same_read E i is.0 (only is.0 is.1.1) in other (ap (λ (k : Id). k.kind) same ∙ is.1.0))
