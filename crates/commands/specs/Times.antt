-- The time that a script writes as the book has it.
use Rattle.model.specs.Scripts as book
use Rattle.commands.specs.declared.time.Time.{Time}
use Rattle.commands.specs.declared.time.Time.TheVariants as time

abbrev pub script_time_of : Time → book.Time
script_time_of (time.Micros micros) = book.Micros micros
script_time_of (time.MinusMinutes minutes) = book.MinusMinutes minutes
script_time_of (time.MinusSeconds seconds) = book.MinusSeconds seconds
script_time_of (time.Exact exact) = book.Exact exact
