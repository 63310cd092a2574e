-- The empty cluster and the empty journal.
use Rattle.std.proofs.Common.{ℕ, [], refl, arith, le_refl}
use Rattle.model.specs.Parts.{start}
use Rattle.law_invariants.specs.Invariant.{Inv}

pub start_holds : (slots : ℕ) → Inv (start slots) [] []
start_holds slots = record {
  master = record {
    namespaces = record { past = λ r isin. absurd isin; drawn_before = λ r isin. absurd isin; unique = λ id name e. absurd (let q = e in grind arith); found = λ id name e. absurd (let q = e in grind arith); viewed = λ id x le. refl };
    tables = record {
      past = λ r isin. absurd isin;
      drawn_before = λ r isin. absurd isin;
      owned = λ r isin. absurd isin;
      owners_drawn = λ id less. refl;
      unique = λ x r isin. absurd isin;
      found = λ x r isin. absurd isin;
      columns = λ r isin. absurd isin;
      rise = tt;
      viewed = λ id ns x owner. absurd (let q = owner in grind arith);
      unmade = λ id x owner. refl;
      inside = λ id x v e. absurd (let q = e in grind arith);
      kept = λ ns. omega arith;
    };
    marks = record { namespaces = λ r isin. absurd isin; tables = λ r isin. absurd isin };
    past = λ ns to is. absurd (let q = is in grind arith);
    complete = λ s isin. absurd isin;
    listed = λ r l isin. absurd isin;
    listed_of = λ r l isin. absurd isin;
  };
  remembered = record { part = tt; each = λ i isin. absurd isin; drawn = λ i isin. absurd isin; drawn_table = λ i isin. absurd isin; reserved = λ c p i isin. absurd isin };
  cover = record { once = λ table code x below. omega arith; whole = λ table code x below is. absurd (let q = is in grind arith); ranges = λ i isin. absurd isin };
  slots = λ slot. record {
    good = record { sorted = tt; below = tt; cutoff = omega arith; keys = tt; set_past = λ f held. absurd held; set_sorted = λ f held. absurd held; set_keys = λ f held. absurd held };
    home = λ present. absurd (let q = present in grind arith);
    numbered = omega arith;
    each = λ i isin. absurd isin;
    opens = λ serving. absurd (let q = serving in grind arith);
    shown = λ serving. absurd (let q = serving in grind arith);
    later = λ ns to is. absurd (let q = is in grind arith);
  };
  operations = record {
    apart = record {
      schedule_ids = λ x y isin. absurd isin;
      one_scheduled = λ x y isin. absurd isin;
      snapshots_rise = tt;
      one_snapshot = λ q r isin. absurd isin;
      restoration_ids = λ x y isin. absurd isin;
      one_restoration = λ q r isin. absurd isin;
      clone_ids = λ x y isin. absurd isin;
      one_clone = λ c d ns isin. absurd isin;
      one_operation = λ r c isin. absurd isin;
      one_target = λ c d p q isin. absurd isin;
      one_made = λ c d p q isin. absurd isin;
      one_name = λ c d isin. absurd isin;
    };
    kept = λ ns. le_refl 0;
    owners = λ table ns e. absurd (let q = e in grind arith);
    schedules = λ s isin. absurd isin;
    scheduled = λ k isin. absurd isin;
    snapshots = λ r isin. absurd isin;
    restorations = λ r isin. absurd isin;
    clones = λ c isin. absurd isin;
    sent = λ mark isin. absurd isin;
  };
  rows_past = λ c table key op isin. absurd isin;
  journal = record { fixed_drawn = λ ns to is. absurd (let q = is in grind arith); drawn = λ c table key op isin. absurd isin; undone = λ r point isin. absurd isin; restored = λ ns point is. absurd (let q = is in grind arith); one_point = λ q r point isin. absurd isin };
  works = λ slot. record {
    orders = record {
      fences = λ operation e. absurd (let q = e in grind arith);
      orders = λ c isin. absurd isin;
      once = tt;
      fresh = λ c isin. absurd isin;
      marks = λ mark isin. absurd isin;
      holds = λ r isin. absurd isin;
      frozen = λ f isin. absurd isin;
      sets = λ f isin. absurd isin;
      bare = λ vacant. record { frozen = refl; fence = refl; done = refl };
    };
    obeyed = record {
      drawn_table = omega arith;
      home = λ present. absurd (let q = present in grind arith);
      snapshots = λ r l isin. absurd isin;
      restorations = λ r isin. absurd isin;
      clones = λ c isin. absurd isin;
    };
  };
}
