-- Words of the crate below that the chapters take, passed on from one place. Declares nothing.
pub use Rattle.std.specs.List.{list_all, list_any}
pub use Rattle.std.specs.Option.{option_map_or, option_or}
pub use Rattle.row_values.specs.Batches.{IsBatch, IsKey, IsValue}
pub use Rattle.row_values.specs.Codes.{code_of}
pub use Rattle.row_values.specs.Elements.{AllOf, In, in_order}
pub use Rattle.row_values.specs.Ids.{Clone, Id, Kind, Namespace, Restoration, Schedule, Snapshot, Table, Tablet, id_bound, same, same_kind}
pub use Rattle.row_values.specs.Ranges.{IsRange, in_range, share_from}
pub use Rattle.row_values.specs.Rows.{absent_row, applied, cut_to}
pub use Rattle.row_values.specs.Schema.{Column, ColumnKind, NewColumn, Schema, column_ids, column_named, first_schema, is_of_kind, numbered, with_column, without_column}
pub use Rattle.row_values.specs.Slots.{has, rising, same_slots}
pub use Rattle.row_values.specs.Store.{AreRows, InOrder, Version, frozen, kept, of_key, of_rows, part_of, precedes, present, read_of, rows_at, written}
pub use Rattle.row_values.specs.declared.rows.KeyedRow.{KeyedRow}
pub use Rattle.row_values.specs.declared.rows.Row.{Row}
pub use Rattle.row_values.specs.declared.value.Item.{Item}
pub use Rattle.row_values.specs.declared.value.RowOp.{RowOp}
pub use Rattle.row_values.specs.declared.value.Value.{Value}
