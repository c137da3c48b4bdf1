-- A block whose children are being added, and its sums when all were.
use Rattle.std.specs.Prelude.{ℕ, ◌==◌, ◌&&◌, nat_le, nat_lt, Bool, true, false, None, if◌then◌else◌}
use Rattle.dom_article.specs.Best.{no_sums}
use Rattle.dom_article.specs.Sums.{plus, run_with, with_block, with_run}
use Rattle.dom_article.specs.declared.blocks.Block.{Block}
use Rattle.dom_article.specs.declared.blocks.Inner.{Inner}
use Rattle.dom_article.specs.declared.sums.Run.{Run}
use Rattle.dom_article.specs.declared.sums.Sums.{Sums}

-- A run without text.
abbrev pub no_run : Run
no_run = record { size = 0; link = 0; commas = 0; ends = true; copyright = false }

-- A block without children.
abbrev pub begun : (weighs cleans : Bool) → Block
begun weighs cleans = record {
  sums = record no_sums { is_inline = false };
  run = no_run;
  runs = 0;
  breaks = 0;
  counted = 0;
  inner = record { raw = 0; like = None; is_leaf = true };
  weighs = weighs;
  cleans = cleans;
}

abbrev pub with_inputs : ℕ → Block → Block
with_inputs inputs block = record block { sums = record block.sums { inputs = plus block.sums.inputs inputs } }

abbrev pub with_images : ℕ → Block → Block
with_images images block = record block { sums = record block.sums { images = plus block.sums.images images } }

-- The run that has begun ends. Without text it was none.
abbrev pub ended : Block → Block
ended block =
    if nat_lt 0 block.run.size
    then record block { sums = with_run block.weighs block.cleans block.sums block.run; runs = plus block.runs 1; run = no_run }
    else record block { run = no_run }

-- One line break more.
abbrev pub with_break : Block → Block
with_break block = record block { breaks = plus block.breaks 1 }

abbrev pub is_second_break : Block → Bool
is_second_break block = plus block.breaks 1 == 2

-- One line break more. The second one in a row ends the run.
abbrev pub with_line_break : Block → Block
with_line_break block = if is_second_break block then ended (with_break block) else with_break block

-- An inline child with a text more.
abbrev pub with_text : Sums → Block → Block
with_text below block = record block { breaks = 0; run = run_with block.run below }

-- A child that is a block and isn't bad counts if it has a text.
abbrev pub counted : Sums → Block → Block
counted below block =
    if nat_lt 0 below.size
    then record block { counted = plus block.counted 1; inner = record { raw = below.raw; like = below.like; is_leaf = below.is_leaf } }
    else block

abbrev pub with_sums : Sums → Block → Block
with_sums below block = record block { sums = with_block block.sums below }

-- A child more that is a block. Of a bad one only inputs and runs of links are added.
abbrev pub with_block_child : Sums → Block → Block
with_block_child below block = if below.is_bad then noted else with_sums below (counted below noted)
  where
    noted : Block
    noted = record block {
      breaks = 0;
      sums = record block.sums { inputs = plus block.sums.inputs below.inputs; link_runs = plus block.sums.link_runs below.link_runs };
    }

-- The sums of a block whose children were added. A block that has but one block takes over what that is.
abbrev pub all_of : Block → Sums
all_of block =
    if (block.counted == 1) && (block.runs == 0)
    then record block.sums { like = block.inner.like; is_leaf = block.inner.is_leaf; raw = block.inner.raw }
    else record block.sums { is_leaf = (block.counted == 0) && nat_le block.runs 1 }
