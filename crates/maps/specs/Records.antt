-- Document 02, U1: "Our rule editor keeps a circuit as records." The records, the sheet that they mean, and the records of a sheet.
use Rattle.std.specs.Prelude.{ℕ, zero, suc, cond, List, map, eqb, ℤ, pos, negsuc, length}
use Rattle.maps.specs.Sheet.{Sheet, Node, Difference, Window, latency_of, clock_to_q_of}
use Rattle.maps.specs.Read.{kind_of, Head, node_of}
use Rattle.maps.specs.WellFormed.{code_of}

-- "header, nodes and differences", of any numbers: a node with its operand ids, a difference (u, v, w), and K, T, H with all of them; from document
-- 02, U8, on P and the entries of windows too, which are records as they stand
pub record NodeRecord : Type 0 where
  pub kind : ℕ
  pub mark : ℕ
  pub delay : ℕ
  pub latency : ℕ
  pub clock_to_q : ℕ
  pub operands : List ℕ

pub record DifferenceRecord : Type 0 where
  pub from : ℕ
  pub to : ℕ
  pub weight : ℤ

pub record Records : Type 0 where
  pub leaves : ℕ
  pub top : ℕ
  pub horizon : ℕ
  pub nodes : List NodeRecord
  pub differences : List DifferenceRecord
  pub period : ℕ
  pub windows : List Window

-- the sheet that records mean
abbrev pub head_meant : NodeRecord → Head
head_meant v =
    record { kind = kind_of v.kind v.latency v.clock_to_q; output = eqb v.mark 1; delay = v.delay; count = length v.operands }

abbrev pub node_meant : NodeRecord → Node
node_meant v = node_of (head_meant v) v.operands

-- w as plus - minus; negsuc k is −k − 1
abbrev pub plus_of : ℤ → ℕ
plus_of (pos k) = k
plus_of (negsuc k) = 0

abbrev pub minus_of : ℤ → ℕ
minus_of (pos k) = 0
minus_of (negsuc k) = suc k

abbrev pub difference_meant : DifferenceRecord → Difference
difference_meant d = record { from = d.from; to = d.to; plus = plus_of d.weight; minus = minus_of d.weight }

abbrev pub sheet_meant : Records → Sheet
sheet_meant R =
    record {
      leaves = R.leaves;
      top = R.top;
      horizon = R.horizon;
      nodes = map node_meant R.nodes;
      differences = map difference_meant R.differences;
      period = R.period;
      windows = R.windows;
    }

-- the records of a sheet
abbrev pub node_record : Node → NodeRecord
node_record v =
    record {
      kind = code_of v.kind;
      mark = cond v.output 1 0;
      delay = v.delay;
      latency = latency_of v.kind;
      clock_to_q = clock_to_q_of v.kind;
      operands = v.operands;
    }

-- w is plus - minus, of which one is 0
abbrev pub weight_of : (plus minus : ℕ) → ℤ
weight_of p zero = pos p
weight_of p (suc k) = negsuc k

abbrev pub difference_record : Difference → DifferenceRecord
difference_record d = record { from = d.from; to = d.to; weight = weight_of d.plus d.minus }

abbrev pub records_of : Sheet → Records
records_of S =
    record {
      leaves = S.leaves;
      top = S.top;
      horizon = S.horizon;
      nodes = map node_record S.nodes;
      differences = map difference_record S.differences;
      period = S.period;
      windows = S.windows;
    }
