use Rattle.catalog_core.proofs.tables.Tables.follow_in_turn.Goals as goal

pub returns-clause-names : goal.returns-clause-names
returns-clause-names c = rw (← c.self.view_is) c.self.invariant.names

pub returns-clause-ids : goal.returns-clause-ids
returns-clause-ids c = rw (← c.self.view_is) c.self.invariant.ids
