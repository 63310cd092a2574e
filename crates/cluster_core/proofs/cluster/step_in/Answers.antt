use Rattle.std.proofs.Common.{sym, subst}
use Rattle.step_table.specs.Histories.{history_of}
use Rattle.machine_laws.specs.Past.{IsPast, book}
use Rattle.machine_laws.specs.Core.{core_of}
use Rattle.cluster_core.specs.Coding.{coding}
use Rattle.cluster_core.proofs.Grown.{may_be, history_is, stamp_is, reply_is, past_is, no_fault, cause_is}
use Rattle.cluster_core.proofs.cluster.step_in.Goals as goal

pub perform-requires : goal.perform-requires
perform-requires g c = record { event = may_be c.args.slots (book (history_of (core_of coding) c.args.line.now.parts)) c.args.line.now.parts c.args.event c.requires.past c.requires.asked }

pub returns-in-Ok-clause-past : goal.returns-in-Ok-clause-past
returns-in-Ok-clause-past g c = past_is c.args.slots c.args.line.now.parts c.perform.new.self.parts c.args.event c.in-Ok.answer c.requires.past c.in-Ok.ensures.ok

pub returns-in-Ok-clause-entry : goal.returns-in-Ok-clause-entry
returns-in-Ok-clause-entry g c = history_is c.args.slots c.args.line.now.parts c.perform.new.self.parts c.args.event c.in-Ok.answer c.requires.past c.in-Ok.ensures.ok

pub returns-in-Ok-clause-stamp : goal.returns-in-Ok-clause-stamp
returns-in-Ok-clause-stamp g c = stamp_is c.args.slots c.args.line.now.parts c.perform.new.self.parts c.args.event c.in-Ok.answer c.requires.past c.in-Ok.ensures.ok

pub returns-in-Ok-clause-reply : goal.returns-in-Ok-clause-reply
returns-in-Ok-clause-reply g c = reply_is c.args.slots c.args.line.now.parts c.perform.new.self.parts c.args.event c.in-Ok.answer c.requires.past c.in-Ok.ensures.ok

pub returns-in-Ok-clause-no_fault : goal.returns-in-Ok-clause-no_fault
returns-in-Ok-clause-no_fault g c = no_fault c.args.slots c.args.line.now.parts c.perform.new.self.parts c.args.event c.in-Ok.answer c.requires.past c.in-Ok.ensures.ok

pub returns-in-Err-clause-past : goal.returns-in-Err-clause-past
returns-in-Err-clause-past g c = subst (λ ps. IsPast c.args.slots (book (history_of (core_of coding) ps)) ps) (sym c.in-Err.ensures.kept) c.requires.past

pub returns-in-Err-clause-cause : goal.returns-in-Err-clause-cause
returns-in-Err-clause-cause g c = cause_is c.args.slots (book (history_of (core_of coding) c.args.line.now.parts)) c.args.line.now.parts c.args.event c.in-Err.why c.requires.past c.requires.asked c.in-Err.ensures.err
