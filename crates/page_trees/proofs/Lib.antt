mod EditCauses
pub mod Enclosing
mod GroupRules
mod HeldNumbers
mod KindLemmas
mod LoweredTexts
mod MadeNodes
mod StackOrder
mod Ways
mod PoppingLemmas
mod PlacingLemmas
mod Carrying
mod FormattingLemmas
mod NameLemmas
mod LinkLemmas
mod LinkLists
mod ScopeLemmas
mod IndexLemmas
mod AlikeLemmas
mod RefreshLemmas
mod StackSearches
mod ThisElement
pub mod NamesAgree
pub mod ScopeEnds
pub mod StandingNames
pub mod StandingStacks
mod ListsMoved
mod StoreLemmas
pub mod TextRuns
pub mod StandingParents
pub mod StandingNodes
pub mod StandingPlaces
pub mod StandingEdits
pub mod CharacterRuns
pub mod ActionsOnNodes
pub mod AgencyEnds
pub mod AgencyPlaces
pub mod AgencyRounds
pub mod LateNodes
mod AbsentAttrs
pub mod KeptElements
pub mod BuiltNodes
mod ContextElements
pub mod CopiedElements
pub mod ReopenedElements
pub mod LikeElements
pub mod ListedEntries
pub mod ClosedEntries
pub mod TagKinds
pub mod TagRules
pub mod TagsCovered
pub mod TurnsCovered
pub mod BuiltRoots
pub mod BuiltCalls
pub mod BuiltPlaces
pub mod BuiltTests
pub mod BuiltTexts
pub mod BuiltLists
pub mod BuiltStacks
pub mod NumberedNames
pub mod BuiltPointers
pub mod BuiltStart
pub mod RulesTaken
pub mod DeeperRuns
pub mod TurnsPassed
pub mod RulesRun
pub mod ModeTables
pub mod ModeOutcomes
pub mod Dispatching
pub mod BuilderSteps
pub mod ElementSteps
pub mod CurrentForeign
pub mod DoctypeTexts
pub mod TokenStates
pub mod TokenRules
pub mod PageEnds
pub mod ForeignTags
pub mod TextTags
pub mod CoveredLemmas
pub mod ShallowRuns
pub mod BoundedTurns
pub mod TextsRead
pub mod CoveredTags
pub mod NamesSpelled
pub mod TokenTurns
pub mod TokenCalls
pub mod DepthNoted
pub mod MergedAttrs
pub mod MergedNodes
pub mod OpenNames
pub mod HtmlTags
pub mod MergedSteps
pub mod CommentPlaces
pub mod FirstRules
pub mod AfterBodyTags
mod TokenAnswers
mod PageFronts
mod PageFlags
mod PageTurns
mod ToldTokens
pub mod SettledFormatting
pub mod CharactersBehind
pub mod CharacterRules
pub mod RunSteps
pub mod RunOutcomes
pub mod FollowingTurns
pub mod PendingTexts
pub mod TableTexts
pub mod TableRuns
pub mod FosteredRuns
pub mod SettledTexts
pub mod SettledTokens
pub mod FosteredTags
pub mod ForeignRuns
pub mod CompletedTrees
pub mod WalkedTrees
pub mod PageShapes
pub mod DocumentsStand
pub mod OneDocument
pub mod ShapesComputed
pub mod FormattingRules
pub mod FormattingTags
pub mod FoundEntries
pub mod UnlistedEntries
pub mod TableRules
pub mod TableRows
pub mod TableTags
pub mod TakenOut
pub mod ShorterLists
pub mod FurthestBlocks
pub mod DroppedElements
pub mod SplitLists
pub mod EntryPlaces
pub mod StackRungs
pub mod InnerLoop
pub mod Bookmarks
pub mod InnerCalls
pub mod WrappedElements
pub mod AdoptedChildren
pub mod ResetLemmas
pub mod HeadEdits
pub mod HeadRules
pub mod HeadModes
pub mod HeadAgain
pub mod HeadPlaces
mod FragmentBegins
pub mod FramesetTags
pub mod BodyRules
pub mod BodyStarts
pub mod ClosedElements
pub mod OtherNamesClosed
pub mod ObjectEnds
pub mod LaterBodies
pub mod PushedEntries
pub mod BodyControls
pub mod BodyElements
pub mod BareElements
pub mod BodyEnds
pub mod CoveredRuns
pub mod KeptByCharacters
pub mod SpacesApart
pub mod WordsApart
pub mod NullsFound
pub mod CharacterTurns
pub mod TextPieces
pub mod GroupRuns
pub mod FosteredImages
pub mod FinishedPages
pub mod BodyFormatting
pub mod EndedForms
pub mod BodyForms
pub mod BodyInputs
pub mod ReturnModes
pub mod OrderlyTokens
pub mod OrderlyPages
pub mod TableInputs
pub mod ForeignNames
pub mod ForeignSteps
pub mod ForeignStarts
pub mod BodyImages
pub mod ForeignEnds
pub mod ForeignEndTags
mod RankLemmas
mod KeyLemmas
mod IndexedLists
mod SortedTexts
mod ElementTexts
mod LikePlaces
mod LikeKeys
mod DepthLemmas
mod LiftLemmas
mod DocumentDepths
