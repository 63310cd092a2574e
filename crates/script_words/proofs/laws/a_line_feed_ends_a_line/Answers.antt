use Rattle.script_words.proofs.Feeds.{feed_ends, no_feed}
use Rattle.script_words.proofs.laws.a_line_feed_ends_a_line.Goals as goal

pub returns-clause-ended : goal.returns-clause-ended
returns-clause-ended c = feed_ends

pub returns-clause-last : goal.returns-clause-last
returns-clause-last c = no_feed
