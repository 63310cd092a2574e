use Rattle.std.proofs.Common.{◌≡◌, ◌∙◌, ap}
use Rattle.uuid.specs.Text.{hyphenated_text, lower}
use Rattle.row_values.specs.Ids.{id_text}
use Rattle.yb_ident.proofs.Texts.{text_of_layout}
use Rattle.admin_words.proofs.text.Text.id.Goals as goal

pub returns-clause-added : goal.returns-clause-added
returns-clause-added c =
    let laid = c.hyphenated.ensures ∙ c.from_bytes-id.ensures ∙ c.bytes.ensures.exact in
    let text : c.encode_lower.result.now ≡ id_text c.args.id = c.encode_lower.ensures.text ∙ ap (hyphenated_text lower) laid ∙ text_of_layout c.args.id in
    let bytes : c.as_bytes.result.now ≡ id_text c.args.id = c.as_bytes.ensures.value ∙ text in
    rw bytes at c.add.ensures.added
