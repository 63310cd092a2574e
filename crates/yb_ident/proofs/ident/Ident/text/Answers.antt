use Rattle.std.proofs.Common.{◌∙◌, ap}
use Rattle.uuid.specs.Text.{hyphenated_text, lower}
use Rattle.yb_ident.proofs.Texts.{text_of_layout}
use Rattle.yb_ident.proofs.ident.Ident.text.Goals as goal

pub returns-clause-exact : goal.returns-clause-exact
returns-clause-exact c =
    let laid = c.hyphenated.ensures ∙ c.from_bytes-id.ensures ∙ c.bytes.ensures.exact in
    rw (c.from_vec.ensures.same, c.into_bytes.ensures.value)
    (c.in_ok-text.ensures.ok ∙ c.encode_lower.ensures.text ∙ ap (hyphenated_text lower) laid ∙ text_of_layout c.args.self)
