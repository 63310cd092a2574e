use Rattle.std.proofs.Common.{◌≡◌, drop}
use Rattle.model.specs.Tablets.{holds_command}
use Rattle.tablet_inbox.proofs.inbox.has_command.Given as goal

abbrev pub invariant-loop-command : goal.invariant-loop-command
invariant-loop-command l =
    holds_command (drop l.command-index l.commands) l.mark.operation l.mark.kind
    ≡ holds_command l.commands l.mark.operation l.mark.kind
