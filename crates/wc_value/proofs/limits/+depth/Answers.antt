use Rattle.wc_value.specs.Spelling.{depth}
use Rattle.wc_value.proofs.Depths.{depth_list, depth_dict, depth_of, goes_deeper, goes_on, is_as_deep}
use Rattle.wc_value.proofs.limits.+depth.Goals as goal

pub are_within_depth-returns-then-not-is_within_depth : goal.are_within_depth-returns-then-not-is_within_depth
are_within_depth-returns-then-not-is_within_depth t c =
    goes_deeper depth _ _ _ _ _ _ _ c.loop-item-test.true c.item-item.is c.as_slice-item-items.ensures (depth_list _) c.requires (λ h. let a = c.is_within_depth.ensures.1 h in let b = c.if-not-is_within_depth.true in cc)

pub are_within_depth-loop-item-preserved : goal.are_within_depth-loop-item-preserved
are_within_depth-loop-item-preserved t c =
    goes_on depth _ _ _ _ _ c.loop-item-test.true c.item-item.is c.loop-item.invariant (c.is_within_depth.ensures.0 c.if-not-is_within_depth.false) c.requires

pub are_within_depth-returns : goal.are_within_depth-returns
are_within_depth-returns t c = is_as_deep depth _ _ _ _ _ c.loop-item-test.false c.as_slice-item-items.ensures c.loop-item.invariant (depth_list _)

pub fields_are_within_depth-returns-then-not-is_within_depth : goal.fields_are_within_depth-returns-then-not-is_within_depth
fields_are_within_depth-returns-then-not-is_within_depth t c =
    goes_deeper depth_of _ _ _ _ _ _ _ c.loop-name-test.true c.loop-name-item.is c.as_slice-name-items.ensures.value (depth_dict _) c.requires (λ h. let a = c.is_within_depth.ensures.1 h in let b = c.if-not-is_within_depth.true in cc)

pub fields_are_within_depth-loop-name-preserved : goal.fields_are_within_depth-loop-name-preserved
fields_are_within_depth-loop-name-preserved t c =
    goes_on depth_of _ _ _ _ _ c.loop-name-test.true c.loop-name-item.is c.loop-name.invariant (c.is_within_depth.ensures.0 c.if-not-is_within_depth.false) c.requires

pub fields_are_within_depth-returns : goal.fields_are_within_depth-returns
fields_are_within_depth-returns t c = is_as_deep depth_of _ _ _ _ _ c.loop-name-test.false c.as_slice-name-items.ensures.value c.loop-name.invariant (depth_dict _)
