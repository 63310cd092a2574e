-- What is done to a row as the book has it, and back.
use Rattle.model.specs.Acts as book
use Rattle.commands.specs.declared.named.NamedOp.{NamedOp}
use Rattle.commands.specs.declared.named.NamedOp.TheVariants as op

abbrev pub named_op_of : NamedOp → book.NamedOp
named_op_of (op.Upsert cells) = book.NamedUpsert cells
named_op_of op.Delete = book.NamedDelete

abbrev pub named_op_from : book.NamedOp → NamedOp
named_op_from (book.NamedUpsert cells) = op.Upsert cells
named_op_from book.NamedDelete = op.Delete
