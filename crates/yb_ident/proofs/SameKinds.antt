-- A kind of this crate and the book's kind give each other back.
use Rattle.std.proofs.Common.{◌≡◌, refl, ap, sym, ◌∙◌}
use Rattle.row_values.specs.Ids as book
use Rattle.yb_ident.specs.declared.kind.Kind.{Kind}
use Rattle.yb_ident.specs.declared.kind.Kind.TheVariants as kind
use Rattle.yb_ident.specs.Seen.{kind_of, kind_from}

pub kind_back : (k : book.Kind) → kind_of (kind_from k) ≡ k
kind_back book.Namespace = refl
kind_back book.Table = refl
kind_back book.Tablet = refl
kind_back book.Schedule = refl
kind_back book.Snapshot = refl
kind_back book.Restoration = refl
kind_back book.Clone = refl

kind_again : (k : Kind) → kind_from (kind_of k) ≡ k
kind_again kind.Namespace = refl
kind_again kind.Table = refl
kind_again kind.Tablet = refl
kind_again kind.Schedule = refl
kind_again kind.Snapshot = refl
kind_again kind.Restoration = refl
kind_again kind.Clone = refl

pub kind_same : (k l : Kind) → kind_of k ≡ kind_of l → k ≡ l
kind_same k l same = sym (kind_again k) ∙ ap kind_from same ∙ kind_again l
